use Rattle.law.proofs.Whole.{lawful_from}
use Rattle.law.proofs.lawful_from.Goals as goal

pub returns : goal.returns
returns g c =
    λ rows. lawful_from g.M.Registers g.G.Registers g.R.ChargeRule rows c.args.money.now c.args.goods.now c.args.rule.now (g.met.R.ChargeRule.splits c.args.rule.now)
