use Rattle.std.proofs.Common.{◌+◌, length, vec_items}
use Rattle.sheet.specs.Cursors.{lines_left}
use Rattle.report.specs.Runs.{HasRoom}
use Rattle.report.proofs.Opening.{Taking}
use Rattle.report.proofs.rows.take_rows.Given as goal

abbrev pub invariant-loop-row : goal.invariant-loop-row
invariant-loop-row l =
    Taking (lines_left l.initial.lines) l.initial.report (vec_items l.rows) (lines_left l.lines) l.report
    × HasRoom l.report (length (lines_left l.lines) + 64)

abbrev pub decreases-loop-row : goal.decreases-loop-row
decreases-loop-row l = length (lines_left l.lines)
