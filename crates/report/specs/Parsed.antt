-- What the lines of a sheet say, before the book sees them. Assumes nothing.
use Rattle.std.specs.Prelude.{ℕ, Bool, false, cond, not, ◌||◌, List, [], ◌∷◌, Some, None, Ok, Err, Option, Result}
use Rattle.std.specs.Option.{option_to_list}
use Rattle.sheet.specs.Faults.{of_sheet, code as line_code}
use Rattle.sheet.specs.declared.faults.LineFault.{LineFault}
use Rattle.sheet.specs.declared.outcome.Line.{Line}
use Rattle.sheet.specs.declared.outcome.Line.TheVariants.{Instrument, Call}
use Rattle.sheet.specs.Lines.{read_line}
use Rattle.sheet.specs.Sheets.{lines_of}
use Rattle.sheet.specs.Verbs.{names_row}
use Rattle.rules.specs.Refusals.{code as book_code}
use Rattle.rules.specs.declared.calls.Call as calls
use Rattle.rules.specs.declared.rows.Row.{Row}
use Rattle.rules.specs.declared.refusals.RefusalCode.{RefusalCode}
use Rattle.rules.specs.declared.requests.Request.{Request}
use Rattle.rules.specs.declared.requests.RequestFault.{RequestFault}
use Rattle.rules.specs.declared.requests.RequestFault.TheVariants as request
use Rattle.rules.specs.declared.requests.Request.TheVariants.{Make}
use Rattle.report.specs.declared.faults.SheetFault.{SheetFault}
use Rattle.report.specs.declared.faults.SheetFault.TheVariants.{NotRead, Misplaced, LongSheet, Refused}

-- what a report shows of a fault
abbrev pub code : SheetFault → RefusalCode
code (NotRead f) = line_code f
code Misplaced = of_sheet 55 0
code LongSheet = of_sheet 56 0
code (Refused e) = book_code e

-- why a line has no answers where its call has none
abbrev pub fault_of : RequestFault → SheetFault
fault_of (request.Refused e) = Refused e
fault_of request.Misplaced = Misplaced

-- what a line of a sheet says, or its fault
abbrev pub Parsed : Type 0
Parsed = Result Line SheetFault

-- a row is late once the book is open
abbrev pub timely : Bool → Result Line LineFault → Parsed
timely opened (Ok (Instrument r)) = cond opened (Err Misplaced) (Ok (Instrument r))
timely opened (Ok (Call c)) = Ok (Call c)
timely opened (Err f) = Err (NotRead f)

-- a call that a line makes, or its fault
abbrev pub call_line : Result calls.Call SheetFault → Parsed
call_line (Ok c) = Ok (Call c)
call_line (Err f) = Err f

-- a line opens the book unless INS is its first field
abbrev pub opens : Bool → List ℕ → Bool
opens opened bs = opened || not (names_row bs)

-- what each of some lines says, where the book may be open before them
abbrev pub parsed_from : Bool → List (List ℕ) → List Parsed
parsed_from opened [] = []
parsed_from opened (bs ∷ lines) = timely opened (read_line bs) ∷ parsed_from (opens opened bs) lines

-- what each line of a sheet says
abbrev pub parsed_lines : List ℕ → List Parsed
parsed_lines bytes = parsed_from false (lines_of bytes)

-- whether the book is open after some lines
abbrev pub opened_after : Bool → List (List ℕ) → Bool
opened_after opened [] = opened
opened_after opened (bs ∷ lines) = opened_after (opens opened bs) lines

-- the row that a line brings, and the call that it makes
abbrev pub row_of : Parsed → Option Row
row_of (Ok (Instrument r)) = Some r
row_of (Ok (Call c)) = None
row_of (Err f) = None

abbrev pub request_of : Parsed → Option Request
request_of (Ok (Instrument r)) = None
request_of (Ok (Call c)) = Some (Make c)
request_of (Err f) = None

abbrev pub row_in : Parsed → List Row
row_in parsed = option_to_list (row_of parsed)

abbrev pub request_in : Parsed → List Request
request_in parsed = option_to_list (request_of parsed)
