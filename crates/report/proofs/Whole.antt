-- The whole report of a sheet: its rows, the lines from the one that opens the book on, and the members.
use Rattle.std.proofs.Common.{◌≡◌, ℕ, suc, ◌+◌, ◌<◌, ◌≤◌, Bool, true, false, cond, List, [], ◌∷◌, ◌++◌, length, map, Ok, Err, Result, sym, refl, ap, ◌∙◌, subst, ap₂, arith, MutBor}
use Rattle.std.specs.List.{flat_map}
use Rattle.std.specs.Prelude.{OnOk}
use Rattle.std.proofs.lemmas.List.{append_assoc, append-nil}
use Rattle.std.proofs.lemmas.Grind.{flat_map-append}
use Rattle.std.proofs.lemmas.Bool.{le-ltb, lt-ltb}
use Rattle.keeper.specs.declared.keepers.Registers as registers
use Rattle.sheet.specs.declared.faults.LineFault.{LineFault}
use Rattle.sheet.specs.declared.outcome.Line.{Line}
use Rattle.sheet.specs.declared.outcome.Line.TheVariants.{Instrument, Call}
use Rattle.sheet.specs.Lines.{read_line}
use Rattle.sheet.specs.Sheets.{lines_of}
use Rattle.rules.specs.declared.rows.Row.{Row}
use Rattle.rules.specs.Law.{Start, opened}
use Rattle.rules.specs.Runs.{Keepers, Response, Snapshot}
use Rattle.law.specs.Lawful.{KeepsLaw}
use Rattle.book.specs.Steps.{Ran}
use Rattle.book.proofs.Lent.{SameLent, behind, lent, ran_behind}
use Rattle.book.proofs.Running.{ran_lawful}
use Rattle.report.specs.declared.faults.SheetFault.TheVariants.{LongSheet}
use Rattle.report.specs.declared.lines.ReportLine.{ReportLine}
use Rattle.report.specs.declared.lines.ReportLine.TheVariants.{Refused}
use Rattle.report.specs.declared.writing.Report.{Report}
use Rattle.report.specs.Parsed.{Parsed, code, parsed_from, parsed_lines, request_in, row_in, timely}
use Rattle.report.specs.Reports.{ReportedIf, ReportedText, lines_report, members_below, report_line, report_of, row_answers}
use Rattle.report.specs.Runs.{Adds, BookRun, LinesRun, RowsTaken, book_report, is_left, parsed_row, rows_report, text_of}
use Rattle.report.specs.Texts.{report_text}
use Rattle.report.proofs.Adding.{more, nothing, text_both}

-- ---- rows, and no rows

late : (r : Result Line LineFault) → row_in (timely true r) ≡ []
late (Ok (Instrument r)) = refl
late (Ok (Call c)) = refl
late (Err f) = refl

-- no row is collected once the book is open
none_late : (lines : List (List ℕ)) → flat_map row_in (parsed_from true lines) ≡ []
none_late [] = refl
none_late (x ∷ lines) = ap₂ (λ a b. a ++ b) (late (read_line x)) (none_late lines)

row_calls : (r : Result Row LineFault) → request_in (parsed_row r) ≡ []
row_calls (Ok r) = refl
row_calls (Err f) = refl

-- and no row makes a call
rows_call : (rs : List (Result Row LineFault)) (ps : List Parsed) → flat_map request_in (map parsed_row rs ++ ps) ≡ flat_map request_in ps
rows_call [] ps = refl
rows_call (r ∷ rs) ps = ap₂ (λ a b. a ++ b) (row_calls r) (rows_call rs ps)

rows_of_all : (rs : List (Result Row LineFault)) (left : List (List ℕ)) → flat_map row_in (map parsed_row rs) ≡ flat_map row_in (map parsed_row rs ++ parsed_from true left)
rows_of_all rs left = sym (append-nil _) ∙ ap (λ xs. flat_map row_in (map parsed_row rs) ++ xs) (sym (none_late left)) ∙ sym (flat_map-append row_in (map parsed_row rs) (parsed_from true left))

-- the lines of rows in a report, whatever the responses
report_rows : (n k : ℕ) (rs : List (Result Row LineFault)) (ps : List Parsed) (ts : List Response) → lines_report n k (map parsed_row rs ++ ps) ts ≡ rows_report n rs ++ lines_report (n + length rs) k ps ts
report_rows n k [] ps ts = let at : n ≡ n + 0 = omega arith in ap (λ i. lines_report i k ps ts) at
report_rows n k (Ok r ∷ rs) ps ts =
    let same : k + 0 ≡ k = omega arith in
    let at : n + 1 + length rs ≡ n + suc (length rs) = omega arith in
    ap (λ ls. report_line n (row_answers (Ok r)) ∷ ls) (ap (λ i. lines_report (n + 1) i (map parsed_row rs ++ ps) ts) same ∙ report_rows (n + 1) k rs ps ts ∙ ap (λ i. rows_report (n + 1) rs ++ lines_report i k ps ts) at)
report_rows n k (Err f ∷ rs) ps ts =
    let same : k + 0 ≡ k = omega arith in
    let at : n + 1 + length rs ≡ n + suc (length rs) = omega arith in
    ap (λ ls. report_line n (row_answers (Err f)) ∷ ls) (ap (λ i. lines_report (n + 1) i (map parsed_row rs ++ ps) ts) same ∙ report_rows (n + 1) k rs ps ts ∙ ap (λ i. rows_report (n + 1) rs ++ lines_report i k ps ts) at)

-- ---- the book, to its end

left_some : (lines : List (List ℕ)) → (lines ≡ [] → ⊥) → is_left lines ≡ true
left_some [] some = absurd (some refl)
left_some (x ∷ lines) some = refl

module _ {M G : Type 0} (m : registers.Ghosts M) (g : registers.Ghosts G) where
  module _ (p : Snapshot) (a : Keepers M G) (lines : List (List ℕ)) (before mid after : Report) (q : Snapshot) (b : Keepers M G) (run : LinesRun m g p a lines before mid q b) where
    abbrev tail_of : Bool → List ReportLine
    tail_of o = cond o (members_below q.ledger 64) []

    with_tail : (o : Bool) → is_left lines ≡ o → Adds (text_of mid) (report_text (tail_of o)) (text_of after) → BookRun m g p a lines before after b
    with_tail o left adds =
        let head = lines_report (before.lines + 1) 0 (parsed_from true lines) run.responses in
        record {
          responses = run.responses;
          end = q;
          run = run.run;
          written = subst (λ xs. Adds (text_of before) xs (text_of after)) (sym (text_both head (tail_of o)) ∙ ap (λ t. report_text (head ++ tail_of t)) (sym left)) (more run.written adds);
        }

    pub with_members : (lines ≡ [] → ⊥) → Adds (text_of mid) (report_text (members_below q.ledger 64)) (text_of after) → BookRun m g p a lines before after b
    with_members some adds = with_tail true (left_some lines some) adds

    pub without_members : lines ≡ [] → text_of after ≡ text_of mid → BookRun m g p a lines before after b
    without_members none same = with_tail false (ap is_left none) (nothing (text_of mid) (text_of after) same)

  -- and over keepers that are lent
  pub book_behind : (p : Snapshot) (a : Keepers (MutBor M) (MutBor G)) (lines : List (List ℕ)) (before after : Report) (b : Keepers (MutBor M) (MutBor G)) → BookRun (lent m) (lent g) p a lines before after b → BookRun m g p (behind a) lines before after (behind b) × SameLent a b
  book_behind p a lines before after b run =
      let own = ran_behind m g p a _ run.responses run.end b run.run in
      (record { responses = run.responses; end = run.end; run = own.0; written = run.written }, own.1)

-- ---- the whole

-- what is promised of an outcome that is a success
pub on_ok : {T E P : Type 0} (r : Result T E) (x : T) → r ≡ Ok x → OnOk r P → P
on_ok (Ok y) x e h = h
on_ok (Err d) x e h = cc

module _ {M G : Type 0} (m : registers.Ghosts M) (g : registers.Ghosts G) (from : List Row → Start) (first : Keepers M G) (bytes : List ℕ) where
  pub refused_whole : (text : List ℕ) (last : Keepers M G) → 65536 < length bytes → text ≡ report_text (Refused 0 (code LongSheet) ∷ []) → last ≡ first → ReportedText m g from first bytes text last
  refused_whole text last long is same =
      let report : List ReportLine = Refused 0 (code LongSheet) ∷ [] in
      record { report = report; reported = subst (ReportedIf m g from first bytes report last) (sym (lt-ltb 65536 (length bytes) long)) (refl, same); written = is }

  pub whole : ((rs : List Row) → (from rs).money ≡ m.meaning first.money) → ((rs : List Row) → (from rs).goods ≡ g.meaning first.goods) → (keeps : (rs : List Row) → KeepsLaw (from rs)) (before : Report) → text_of before ≡ [] → before.lines ≡ 0
      → (rows : List Row) (left : List (List ℕ)) (mid : Report) → RowsTaken (lines_of bytes) before rows left mid
      → (p : Snapshot) → p ≡ opened (from rows) → (after : Report) (last : Keepers M G) → BookRun m g p first left mid after last
      → (text : List ℕ) → text ≡ text_of after → length bytes ≤ 65536 → ReportedText m g from first bytes text last
  whole em eg keeps before blank zeroth rows left mid rs p start after last run text is short =
      let q : Snapshot = run.end in
      let ps : List Parsed = map parsed_row rs.read ++ parsed_from true left in
      let ts : List Response = run.responses in
      let all : ps ≡ parsed_lines bytes = rs.all in
      let rows_all : rows ≡ flat_map row_in (parsed_lines bytes) = rs.rows_in ∙ rows_of_all rs.read left ∙ ap (flat_map row_in) all in
      let calls : flat_map request_in (parsed_from true left) ≡ flat_map request_in (parsed_lines bytes) = sym (rows_call rs.read (parsed_from true left)) ∙ ap (flat_map request_in) all in
      let o : Start = from (flat_map row_in (parsed_lines bytes)) in
      let ran : Ran m g (opened o) first (flat_map request_in (parsed_lines bytes)) ts q last =
      subst (λ x. Ran m g x first (flat_map request_in (parsed_lines bytes)) ts q last) (start ∙ ap (λ xs. opened (from xs)) rows_all) (subst (λ xs. Ran m g p first xs ts q last) calls run.run) in
      let one : before.lines + 1 ≡ 1 = omega (arith, zeroth) in
      let on : mid.lines + 1 ≡ 1 + length rs.read = omega (arith, zeroth, rs.counted) in
      let head : List ReportLine = rows_report (before.lines + 1) rs.read in
      let tail : List ReportLine = cond (is_left left) (members_below q.ledger 64) [] in
      let lines : head ++ lines_report (mid.lines + 1) 0 (parsed_from true left) ts ≡ lines_report 1 0 (parsed_lines bytes) ts =
      ap₂ (λ i j. rows_report i rs.read ++ lines_report j 0 (parsed_from true left) ts) one on ∙ sym (report_rows 1 0 rs.read (parsed_from true left) ts) ∙ ap (λ xs. lines_report 1 0 xs ts) all in
      let report : List ReportLine = report_of bytes ts q.ledger in
      let listed : head ++ book_report (mid.lines + 1) left ts q.ledger ≡ report =
      sym (append_assoc head (lines_report (mid.lines + 1) 0 (parsed_from true left) ts) tail) ∙ ap (λ xs. xs ++ tail) lines ∙ ap (λ t. lines_report 1 0 (parsed_lines bytes) ts ++ cond t (members_below q.ledger 64) []) (sym rs.opened) in
      record {
        report = report;
        reported = subst (ReportedIf m g from first bytes report last) (sym (le-ltb 65536 (length bytes) short)) (record { responses = ts; end = q; law = ran_lawful m g o first _ _ q last (em _) (eg _) (keeps _) ran; reported = refl });
        written = is ∙ (more rs.written run.written).all ∙ ap (λ t. t ++ (report_text head ++ report_text (book_report (mid.lines + 1) left ts q.ledger))) blank
            ∙ sym (text_both head (book_report (mid.lines + 1) left ts q.ledger)) ∙ ap report_text listed;
      }
