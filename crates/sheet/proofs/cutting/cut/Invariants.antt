use Rattle.std.proofs.Common.{length}
use Rattle.sheet.proofs.Cuts.{Along}
use Rattle.sheet.proofs.cutting.cut.Given as goal

abbrev pub invariant-loop-left : goal.invariant-loop-left
invariant-loop-left l = Along l.mark l.text l.n l.left

abbrev pub decreases-loop-left : goal.decreases-loop-left
decreases-loop-left l = length l.left
