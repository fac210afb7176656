-- A run of a sheet line by line, and the text of its report. Assumes nothing.
use Rattle.std.specs.Prelude.{◌≡◌, ℕ, ◌+◌, ◌*◌, ◌≤◌, Bool, true, false, cond, List, [], ◌∷◌, ◌++◌, length, map, Ok, Err, Result, string_bytes, string_capacity, string_len}
use Rattle.std.specs.List.{flat_map}
use Rattle.keeper.specs.declared.keepers.Registers as registers
use Rattle.sheet.specs.declared.faults.LineFault.{LineFault}
use Rattle.sheet.specs.Lines.{row_line}
use Rattle.sheet.specs.declared.outcome.Line.TheVariants.{Instrument, Call}
use Rattle.rules.specs.declared.rows.Row.{Row}
use Rattle.rules.specs.declared.requests.Answers.{Answers}
use Rattle.rules.specs.declared.requests.Request.TheVariants.{Make}
use Rattle.rules.specs.Answering.{one}
use Rattle.rules.specs.Limits.{Ledger}
use Rattle.rules.specs.Runs.{Keepers, Response, Snapshot}
use Rattle.book.specs.declared.view.BookView as view
use Rattle.book.specs.Steps.{Ran, Steps}
use Rattle.report.specs.declared.faults.SheetFault.{SheetFault}
use Rattle.report.specs.declared.writing.Report.{Report}
use Rattle.report.specs.declared.lines.ReportLine.{ReportLine}
use Rattle.report.specs.Parsed.{Parsed, opened_after, parsed_from, request_in, row_in, timely}
use Rattle.report.specs.Reports.{answers_of, lines_report, members_below, report_line, row_answers}
use Rattle.report.specs.Texts.{report_text}

-- a piece is added to a text
pub record Adds (before piece after : List ℕ) : Type 0 where
  pub all : after ≡ before ++ piece

abbrev pub text_of : Report → List ℕ
text_of r = string_bytes r.text

-- there is room for so many lines more, of 111 bytes and a feed each
abbrev pub HasRoom : Report → ℕ → Type 0
HasRoom r n = string_len r.text + 112 * n ≤ string_capacity r.text

-- what a line says whose row is read so
abbrev pub parsed_row : Result Row LineFault → Parsed
parsed_row r = timely false (row_line r)

-- a line for each row read, from the n-th line of the sheet on
abbrev pub rows_report : ℕ → List (Result Row LineFault) → List ReportLine
rows_report n [] = []
rows_report n (r ∷ rs) = report_line n (row_answers r) ∷ rows_report (n + 1) rs

-- whether any line is left
abbrev pub is_left : List (List ℕ) → Bool
is_left [] = false
is_left (bs ∷ lines) = true

-- the first of some lines are rows that are read and reported; those left begin with the one that opens the book
pub record RowsTaken (lines : List (List ℕ)) (before : Report) (rows : List Row) (left : List (List ℕ)) (after : Report) : Type 0 where
  pub read : List (Result Row LineFault)
  pub all : map parsed_row read ++ parsed_from true left ≡ parsed_from false lines
  pub rows_in : rows ≡ flat_map row_in (map parsed_row read)
  pub written : Adds (text_of before) (report_text (rows_report (before.lines + 1) read)) (text_of after)
  pub counted : after.lines ≡ before.lines + length read
  pub few : after.lines + length left ≡ before.lines + length lines
  pub opened : opened_after false lines ≡ is_left left

-- what a line does to a book: a call is taken by it, with its response; any other line leaves it
abbrev pub LineRun : {B : Type 0} → view.Ghosts B → B → Parsed → Result Answers SheetFault → B → Type 0
LineRun s b (Ok (Instrument r)) v b' = (v ≡ Ok (one 0)) × (b' ≡ b)
LineRun s b (Ok (Call c)) v b' = (t : Response) × (v ≡ answers_of t) × Steps s b (Make c) t b'
LineRun s b (Err f) v b' = (v ≡ Err f) × (b' ≡ b)

-- lines are run over an open book, from one snapshot and two keepers to others, and reported
pub record LinesRun {M G : Type 0} (m : registers.Ghosts M) (g : registers.Ghosts G) (p : Snapshot) (a : Keepers M G) (lines : List (List ℕ)) (before after : Report) (q : Snapshot) (b : Keepers M G) : Type 0 where
  pub responses : List Response
  pub run : Ran m g p a (flat_map request_in (parsed_from true lines)) responses q b
  pub written : Adds (text_of before) (report_text (lines_report (before.lines + 1) 0 (parsed_from true lines) responses)) (text_of after)

-- the report of the lines from the one that opens the book on, which is the n-th of the sheet, and of the members at the end if there is any
abbrev pub book_report : ℕ → List (List ℕ) → List Response → Ledger → List ReportLine
book_report n lines ts b = lines_report n 0 (parsed_from true lines) ts ++ cond (is_left lines) (members_below b 64) []

-- a book is run over these lines, from a snapshot and two keepers to its end, and all of that is reported
pub record BookRun {M G : Type 0} (m : registers.Ghosts M) (g : registers.Ghosts G) (p : Snapshot) (a : Keepers M G) (lines : List (List ℕ)) (before after : Report) (b : Keepers M G) : Type 0 where
  pub responses : List Response
  pub end : Snapshot
  pub run : Ran m g p a (flat_map request_in (parsed_from true lines)) responses end b
  pub written : Adds (text_of before) (report_text (book_report (before.lines + 1) lines responses end.ledger)) (text_of after)
