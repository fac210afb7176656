use Rattle.std.proofs.Common.{vec_items, ap, ◌∙◌, subst}
use Rattle.rules.specs.Terms.{in_force}
use Rattle.section.specs.Views.{opened_section}
use Rattle.sheet.specs.Cursors.{lines_left}
use Rattle.report.specs.Runs.{RowsTaken}
use Rattle.report.proofs.ready.ReadySheet.prepare.Goals as goal

pub returns : goal.returns
returns g c =
    let rows = vec_items c.in_ok-rows.rows in
    let lines = lines_left c.take_rows.new.lines in
    record {
      rows = rows;
      blank = c.in_ok-report.report;
      no_text = c.in_ok-report.ensures.text;
      no_lines = c.in_ok-report.ensures.lines;
      taken = subst (λ ls. RowsTaken ls c.in_ok-report.report rows lines c.take_rows.new.report) c.of-lines.ensures.all c.in_ok-rows.ensures.taken;
      opened = c.in_ok-section.ensures ∙ ap (λ xs. opened_section (in_force (g.R.ChargeRule.top c.args.rule.now) xs)) c.as_slice.ensures.value;
    }
