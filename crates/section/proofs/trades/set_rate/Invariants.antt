use Rattle.std.proofs.Common.{◌≡◌, ◌++◌, map, take, drop}
use Rattle.rules.specs.Effects.{rerated}
use Rattle.section.proofs.trades.set_rate.Given as goal

abbrev pub invariant-loop-row : goal.invariant-loop-row
invariant-loop-row l = l.rows ≡ map (rerated l.instrument l.rate) (take l.row-index l.initial.rows) ++ drop l.row-index l.initial.rows
