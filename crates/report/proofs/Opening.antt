-- The rows of a sheet, one line on, up to the line that opens the book.
use Rattle.std.proofs.Common.{◌≡◌, ℕ, suc, ◌+◌, true, false, not, List, [], ◌∷◌, ◌++◌, length, map, Ok, Err, Result, sym, refl, ap, ◌∙◌, subst, ap₂, arith}
use Rattle.std.specs.List.{flat_map}
use Rattle.std.proofs.lemmas.List.{append_assoc, flat_map_more, length_push, map_push}
use Rattle.sheet.specs.declared.faults.LineFault.{LineFault}
use Rattle.sheet.specs.declared.outcome.Line.{Line}
use Rattle.sheet.specs.declared.outcome.Line.TheVariants.{Instrument, Call}
use Rattle.sheet.specs.Lines.{read_line, row_line}
use Rattle.sheet.specs.Rows.{NoRow, TakesRow}
use Rattle.sheet.specs.Verbs.{names_row}
use Rattle.sheet.proofs.Exact.{no_row}
use Rattle.rules.specs.declared.rows.Row.{Row}
use Rattle.report.specs.declared.writing.Report.{Report}
use Rattle.report.specs.Parsed.{opened_after, opens, parsed_from, row_in, timely}
use Rattle.report.specs.Reports.{report_line, row_answers}
use Rattle.report.specs.Runs.{Adds, RowsTaken, is_left, parsed_row, rows_report, text_of}
use Rattle.report.specs.Texts.{line_text, report_text}
use Rattle.report.proofs.Adding.{nothing, text_more}

-- one row more in the report
report_push : (n : ℕ) (rs : List (Result Row LineFault)) (r : Result Row LineFault) → rows_report n (rs ++ r ∷ []) ≡ rows_report n rs ++ report_line (n + length rs) (row_answers r) ∷ []
report_push n [] r = let at : n ≡ n + 0 = omega arith in ap (λ i. report_line i (row_answers r) ∷ []) at
report_push n (x ∷ rs) r =
    let at : n + 1 + length rs ≡ n + suc (length rs) = omega arith in
    ap (λ ls. report_line n (row_answers x) ∷ ls) (report_push (n + 1) rs r ∙ ap (λ i. rows_report (n + 1) rs ++ report_line i (row_answers r) ∷ []) at)

-- the rows read so far, and the lines that are left
pub record Taking (lines : List (List ℕ)) (before : Report) (rows : List Row) (left : List (List ℕ)) (after : Report) : Type 0 where
  pub read : List (Result Row LineFault)
  pub all : map parsed_row read ++ parsed_from false left ≡ parsed_from false lines
  pub rows_in : rows ≡ flat_map row_in (map parsed_row read)
  pub written : Adds (text_of before) (report_text (rows_report (before.lines + 1) read)) (text_of after)
  pub counted : after.lines ≡ before.lines + length read
  pub few : after.lines + length left ≡ before.lines + length lines
  pub opened : opened_after false lines ≡ opened_after false left

pub taking_none : (lines : List (List ℕ)) (before : Report) (rows : List Row) → rows ≡ [] → Taking lines before rows lines before
taking_none lines before rows none = record {
  read = [];
  all = refl;
  rows_in = none;
  written = nothing _ _ refl;
  counted = omega arith;
  few = refl;
  opened = refl;
}

-- what the line of a row says, and that it does not open the book
module _ (line : List ℕ) (r : Result Row LineFault) (named : names_row line ≡ true) (value : read_line line ≡ row_line r) where
  row_parsed : timely false (read_line line) ≡ parsed_row r
  row_parsed = ap (timely false) value

  still_closed : opens false line ≡ false
  still_closed = ap not named

module _ (lines : List (List ℕ)) (before : Report) (rows : List Row) (left : List (List ℕ)) (mid : Report) (so : Taking lines before rows left mid) where
  -- one row more
  pub taking_more : (r : Result Row LineFault) (left' : List (List ℕ)) → TakesRow left r left' → (rows' : List Row) → rows' ≡ rows ++ row_in (parsed_row r)
      → (after : Report) → Adds (text_of mid) (line_text (report_line (mid.lines + 1) (row_answers r))) (text_of after) → after.lines ≡ mid.lines + 1 → Taking lines before rows' left' after
  taking_more r left' takes rows' pushed after adds step =
      let closed = still_closed takes.line r takes.named takes.value in
      let says = row_parsed takes.line r takes.named takes.value in
      let next : parsed_from false left ≡ parsed_row r ∷ parsed_from false left' = ap (parsed_from false) takes.taken ∙ ap₂ (λ p o. p ∷ parsed_from o left') says closed in
      let at : mid.lines + 1 ≡ before.lines + 1 + length so.read = omega (arith, so.counted) in
      record {
        read = so.read ++ r ∷ [];
        all = ap (λ ps. ps ++ parsed_from false left') (map_push parsed_row so.read r) ∙ append_assoc (map parsed_row so.read) (parsed_row r ∷ []) (parsed_from false left') ∙ ap (λ ps. map parsed_row so.read ++ ps) (sym next) ∙ so.all;
        rows_in = pushed ∙ ap (λ xs. xs ++ row_in (parsed_row r)) so.rows_in ∙ flat_map_more row_in [] (map parsed_row so.read) (parsed_row r) ∙ ap (flat_map row_in) (sym (map_push parsed_row so.read r));
        written = subst (λ ls. Adds (text_of before) (report_text ls) (text_of after)) (sym (report_push (before.lines + 1) so.read r))
            (text_more (rows_report (before.lines + 1) so.read) (report_line (before.lines + 1 + length so.read) (row_answers r)) so.written (subst (λ n. Adds (text_of mid) (line_text (report_line n (row_answers r))) (text_of after)) at adds));
        counted = omega (arith, step, so.counted, length_push so.read r);
        few = omega (arith, step, so.few, ap length takes.taken);
        opened = so.opened ∙ ap (opened_after false) takes.taken ∙ ap (λ o. opened_after o left') closed;
      }

-- a line that says no row says the same before the opening and after it
no_row_says : (r : Result Line LineFault) → ((x : Row) → r ≡ Ok (Instrument x) → ⊥) → timely false r ≡ timely true r
no_row_says (Ok (Instrument x)) none = absurd (none x refl)
no_row_says (Ok (Call c)) none = refl
no_row_says (Err f) none = refl

opened_stays : (lines : List (List ℕ)) → opened_after true lines ≡ true
opened_stays [] = refl
opened_stays (bs ∷ lines) = opened_stays lines

opening_says : (left : List (List ℕ)) → NoRow left → parsed_from false left ≡ parsed_from true left
opening_says [] none = refl
opening_says (bs ∷ lines) other = ap₂ (λ p o. p ∷ parsed_from o lines) (no_row_says (read_line bs) (no_row bs other)) (ap not other)

opening_opens : (left : List (List ℕ)) → NoRow left → opened_after false left ≡ is_left left
opening_opens [] none = refl
opening_opens (bs ∷ lines) other = ap (λ o. opened_after o lines) (ap not other) ∙ opened_stays lines

pub taking_done : (lines : List (List ℕ)) (before : Report) (rows : List Row) (left : List (List ℕ)) (after : Report) → Taking lines before rows left after → NoRow left → RowsTaken lines before rows left after
taking_done lines before rows left after so other = record {
  read = so.read;
  all = ap (λ ps. map parsed_row so.read ++ ps) (sym (opening_says left other)) ∙ so.all;
  rows_in = so.rows_in;
  written = so.written;
  counted = so.counted;
  few = so.few;
  opened = so.opened ∙ opening_opens left other;
}
