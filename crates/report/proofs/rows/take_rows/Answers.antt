use Rattle.std.proofs.Common.{◌+◌, length, vec_items, sym, subst}
use Rattle.sheet.specs.Cursors.{lines_left}
use Rattle.sheet.specs.Rows.{NoRow}
use Rattle.report.specs.Reports.{report_line}
use Rattle.report.specs.Runs.{Adds, HasRoom, text_of}
use Rattle.report.specs.Texts.{line_text}
use Rattle.report.proofs.Opening.{Taking, taking_done, taking_more, taking_none}
use Rattle.report.proofs.Room.{room_next}
use Rattle.report.proofs.rows.take_rows.Goals as goal

pub loop-row-init : goal.loop-row-init
loop-row-init c = (taking_none _ _ _ c.new-rows.ensures.items, c.requires.room)

pub loop-row-preserved : goal.loop-row-preserved
loop-row-preserved c =
    let r = c.in-Some.row in
    let adds = subst (λ v. Adds (text_of c.loop-row.report) (line_text (report_line (c.loop-row.report.lines + 1) v)) (text_of c.add_answers.new.self)) c.row_answers.ensures c.add_answers.ensures.text in (
      taking_more _ _ _ _ _ c.loop-row.invariant.0 r _ c.in-Some.ensures.row _ c.in_ok-add_row.ensures _ adds c.add_answers.ensures.lines,
      c.add_answers.ensures.room _ (room_next c.loop-row.report _ _ _ c.in-Some.ensures.row.taken c.loop-row.invariant.1),
    )

pub returns-clause-taken : goal.returns-clause-taken
returns-clause-taken c =
    let stays = c.in_default.ensures.stays in
    taking_done _ _ _ _ _ (subst (λ ls. Taking (lines_left c.args.lines.now) c.args.report.now (vec_items c.loop-row.rows) (lines_left ls) c.loop-row.report) (sym stays) c.loop-row.invariant.0) (subst (λ ls. NoRow (lines_left ls)) (sym stays) c.in_default.ensures.other)

pub returns-clause-room : goal.returns-clause-room
returns-clause-room c = subst (λ ls. HasRoom c.loop-row.report (length (lines_left ls) + 64)) (sym c.in_default.ensures.stays) c.loop-row.invariant.1
