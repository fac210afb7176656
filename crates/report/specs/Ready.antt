-- A sheet that is ready to be run. Assumes nothing.
use Rattle.std.specs.Prelude.{◌≡◌, ℕ, List, []}
use Rattle.sheet.specs.Cursors.{lines_left}
use Rattle.sheet.specs.Sheets.{lines_of}
use Rattle.rules.specs.declared.rows.Row.{Row}
use Rattle.rules.specs.Terms.{in_force}
use Rattle.section.specs.Views.{opened_section, section_of}
use Rattle.report.specs.declared.ready.ReadySheet.{ReadySheet}
use Rattle.report.specs.declared.writing.Report.{Report}
use Rattle.report.specs.Runs.{RowsTaken, text_of}

-- from an empty report its rows are taken and reported; and the section is opened with them under a top rate
pub record IsReady (top : ℕ) (sheet : List ℕ) (ready : ReadySheet) : Type 0 where
  pub rows : List Row
  pub blank : Report
  pub no_text : text_of blank ≡ []
  pub no_lines : blank.lines ≡ 0
  pub taken : RowsTaken (lines_of sheet) blank rows (lines_left ready.lines) ready.report
  pub opened : section_of ready.section ≡ opened_section (in_force top rows)
