use Rattle.std.specs.Prelude.{◌≡◌}
use Rattle.rules.specs.Orders.{goes_on}
use Rattle.section.proofs.section.fn.Section.end_trading.retain.Given as goal

abbrev pub ensures : goal.ensures
ensures l r = r ≡ goes_on l.today l.live.entry.now
