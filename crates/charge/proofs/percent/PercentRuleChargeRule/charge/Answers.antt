use Rattle.std.proofs.Common.{sym, arith}
use Rattle.charge.specs.Lots.{rated_bounded, lots_few, lots_fit}
use Rattle.charge.proofs.percent.PercentRuleChargeRule.charge.Goals as goal

pub overflow_mul-result : goal.overflow_mul-result
overflow_mul-result c =
    let a = c.args in
    let within = sym c.if-not-is_chargeable.ensures in
    record { fits = lots_fit _ _ (omega (arith, rated_bounded a.rate a.price a.lots within)) (lots_few 10000 a.rate a.price a.lots within) }
