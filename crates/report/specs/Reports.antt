-- The report of a sheet. Assumes nothing.
use Rattle.std.specs.Prelude.{◌≡◌, ℕ, zero, suc, ◌+◌, Bool, true, false, cond, ◌&&◌, ◌||◌, List, [], ◌∷◌, ◌++◌, length, pos, Ok, Err, Result, int_lt, nat_lt, slice_index_or}
use Rattle.std.specs.List.{flat_map}
use Rattle.keeper.specs.declared.keepers.Registers as registers
use Rattle.sheet.specs.Sheets.{lines_of}
use Rattle.sheet.specs.declared.faults.LineFault.{LineFault}
use Rattle.sheet.specs.declared.outcome.Line.TheVariants.{Instrument, Call}
use Rattle.rules.specs.Answering.{one}
use Rattle.rules.specs.Law.{RunLaw, Start}
use Rattle.rules.specs.declared.rows.Row.{Row}
use Rattle.rules.specs.Limits.{Ledger, clearing, free_clearing, free_position, known, position}
use Rattle.rules.specs.Runs.{Keepers, Response, Snapshot}
use Rattle.rules.specs.declared.requests.Answers.{Answers}
use Rattle.rules.specs.declared.requests.Answer.TheVariants as answer
use Rattle.rules.specs.declared.requests.RequestFault.TheVariants as request
use Rattle.report.specs.declared.faults.SheetFault.{SheetFault}
use Rattle.report.specs.declared.faults.SheetFault.TheVariants as faults
use Rattle.report.specs.declared.lines.ReportLine.{ReportLine}
use Rattle.report.specs.declared.lines.ReportLine.TheVariants.{Accepted, Refused, Member}
use Rattle.report.specs.Parsed.{Parsed, code, fault_of, opened_after, parsed_lines, request_in, row_in}
use Rattle.report.specs.Texts.{report_text}

-- a call's answers, or its fault
abbrev pub answers_of : Response → Result Answers SheetFault
answers_of (Ok (answer.Accepted v)) = Ok v
answers_of (Ok (answer.Replied r)) = Ok (one 0)
answers_of (Err e) = Err (fault_of e)

-- a row answers 0 and 0
abbrev pub row_answers : Result Row LineFault → Result Answers SheetFault
row_answers (Ok r) = Ok (one 0)
row_answers (Err f) = Err (faults.NotRead f)

-- a line's answers: a row's, or those of the response to its call; or its fault
abbrev pub line_answers : Parsed → Response → Result Answers SheetFault
line_answers (Ok (Instrument r)) t = Ok (one 0)
line_answers (Ok (Call c)) t = answers_of t
line_answers (Err f) t = Err f

-- the report's line for a line of the sheet
abbrev pub report_line : ℕ → Result Answers SheetFault → ReportLine
report_line n (Ok v) = Accepted n v
report_line n (Err f) = Refused n (code f)

-- a line for each line of the sheet from the n-th on; the k-th response is to the first call among them
abbrev pub lines_report : ℕ → ℕ → List Parsed → List Response → List ReportLine
lines_report n k [] ts = []
lines_report n k (p ∷ ps) ts = report_line n (line_answers p (slice_index_or ts k (Err request.Misplaced))) ∷ lines_report (n + 1) (k + length (request_in p)) ps ts

-- a known member with money, or a free position limit that is not 0
abbrev pub is_listed : Ledger → ℕ → Bool
is_listed b m = known b m && (nat_lt 0 (position b m) || (nat_lt 0 (clearing b m) || (int_lt (free_position b m) (pos 0) || int_lt (pos 0) (free_position b m))))

abbrev pub member_of : Ledger → ℕ → ReportLine
member_of b m = Member m (position b m) (clearing b m) (free_position b m) (free_clearing b m)

-- a line for each such member below a number, rising
unfoldable pub members_below : Ledger → ℕ → List ReportLine
members_below b zero = []
members_below b (suc m) = members_below b m ++ cond (is_listed b m) (member_of b m ∷ []) []

-- a sheet has at most so many bytes
abbrev pub most_bytes : ℕ
most_bytes = 65536

-- the lines of the sheet, and then, if it opened the book, the members
abbrev pub report_of : List ℕ → List Response → Ledger → List ReportLine
report_of bytes ts b = lines_report 1 0 (parsed_lines bytes) ts ++ cond (opened_after false (lines_of bytes)) (members_below b 64) []

-- a sheet that is too long is refused whole, and no line of it is run
abbrev pub too_long : List ℕ → Bool
too_long bytes = nat_lt most_bytes (length bytes)

module _ {M G : Type 0} (m : registers.Ghosts M) (g : registers.Ghosts G) (from : List Row → Start) (first : Keepers M G) (bytes : List ℕ) where
  -- a run of the sheet's rows and calls, from the start that its rows make and from the first two keepers to the last, that keeps the law of whole runs, reported line by line
  pub record RunReported (report : List ReportLine) (last : Keepers M G) : Type 0 where
    pub responses : List Response
    pub end : Snapshot
    pub law : RunLaw m g (from (flat_map row_in (parsed_lines bytes))) first (flat_map request_in (parsed_lines bytes)) responses end last
    pub reported : report ≡ report_of bytes responses end.ledger

  -- a sheet that is refused whole leaves the very keepers
  abbrev pub ReportedIf : List ReportLine → Keepers M G → Bool → Type 0
  ReportedIf report last true = (report ≡ Refused 0 (code faults.LongSheet) ∷ []) × (last ≡ first)
  ReportedIf report last false = RunReported report last

  abbrev pub Reported : List ReportLine → Keepers M G → Type 0
  Reported report last = ReportedIf report last (too_long bytes)

  -- the text of a report of a sheet
  pub record ReportedText (text : List ℕ) (last : Keepers M G) : Type 0 where
    pub report : List ReportLine
    pub reported : Reported report last
    pub written : text ≡ report_text report
