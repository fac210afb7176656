-- The lines from the one that opens the book on, one line more.
use Rattle.std.proofs.Common.{◌≡◌, ℕ, suc, ◌+◌, ◌≤◌, true, List, [], ◌∷◌, ◌++◌, length, get_or, Ok, Err, Result, sym, refl, ap, ◌∙◌, subst, ap₂, subst₂, arith}
use Rattle.std.specs.List.{flat_map}
use Rattle.std.proofs.lemmas.List.{append_assoc, append-nil, get_or_append_left, get_or_push, flat_map_more, length-append, length_push}
use Rattle.keeper.specs.declared.keepers.Registers as registers
use Rattle.sheet.specs.declared.outcome.Line.TheVariants.{Instrument, Call}
use Rattle.sheet.specs.Lines.{read_line}
use Rattle.rules.specs.Entries.{Entries}
use Rattle.rules.specs.Runs.{Keepers, KeepersGoOn, Response, Snapshot}
use Rattle.rules.specs.declared.requests.Answers.{Answers}
use Rattle.rules.specs.declared.requests.Request.{Request}
use Rattle.rules.specs.declared.requests.Request.TheVariants.{Make}
use Rattle.rules.specs.declared.requests.RequestFault.TheVariants.{Misplaced}
use Rattle.book.specs.declared.view.BookView as view
use Rattle.book.specs.Steps.{Ran, Stepped, Steps}
use Rattle.book.proofs.Running.{ran_length, ran_more, ran_none}
use Rattle.report.specs.declared.faults.SheetFault.{SheetFault}
use Rattle.report.specs.declared.writing.Report.{Report}
use Rattle.report.specs.Parsed.{Parsed, parsed_from, request_in, timely}
use Rattle.report.specs.Reports.{answers_of, line_answers, lines_report, report_line}
use Rattle.report.specs.Runs.{Adds, LineRun, LinesRun, text_of}
use Rattle.report.specs.Texts.{line_text, report_text}
use Rattle.report.proofs.Adding.{nothing, text_more}

-- a line's answers do not change by later responses
answers_stay : (p : Parsed) (responses later : List Response) (k : ℕ) → k + length (request_in p) ≤ length responses
    → line_answers p (get_or (responses ++ later) k (Err Misplaced)) ≡ line_answers p (get_or responses k (Err Misplaced))
answers_stay (Ok (Instrument r)) responses later k h = refl
answers_stay (Ok (Call c)) responses later k h = ap answers_of (get_or_append_left responses later (Err Misplaced) k (omega arith))
answers_stay (Err f) responses later k h = refl

-- a line more, to which the later response is
lines_more : (m k : ℕ) (ps : List Parsed) (p : Parsed) (responses later : List Response) → k + length (flat_map request_in ps) ≡ length responses
    → lines_report m k (ps ++ p ∷ []) (responses ++ later) ≡ lines_report m k ps responses ++ report_line (m + length ps) (line_answers p (get_or (responses ++ later) (length responses) (Err Misplaced))) ∷ []
lines_more m k [] p responses later h =
    let at : k ≡ length responses = omega (arith, h) in
    let line : m ≡ m + 0 = omega arith in
    ap₂ (λ i j. report_line i (line_answers p (get_or (responses ++ later) j (Err Misplaced))) ∷ []) line at
lines_more m k (x ∷ ps) p responses later h =
    let long = length-append (request_in x) (flat_map request_in ps) in
    let line : m + 1 + length ps ≡ m + suc (length ps) = omega arith in
    ap₂ (λ v ls. report_line m v ∷ ls) (answers_stay x responses later k (omega (arith, h, long)))
    (lines_more (m + 1) (k + length (request_in x)) ps p responses later (omega (arith, h, long))
    ∙ ap (λ i. lines_report (m + 1) (k + length (request_in x)) ps responses ++ report_line i (line_answers p (get_or (responses ++ later) (length responses) (Err Misplaced))) ∷ []) line)

module _ {M G : Type 0} (m : registers.Ghosts M) (g : registers.Ghosts G) where
  -- one line on: the responses by then, and the report of them
  record Further (n : ℕ) (p : Snapshot) (a : Keepers M G) (ps : List Parsed) (responses : List Response) (x : Parsed) (v : Result Answers SheetFault) (q : Snapshot) (b : Keepers M G) : Type 0 where
    pub responses' : List Response
    pub ran : Ran m g p a (flat_map request_in (ps ++ x ∷ [])) responses' q b
    pub reported : lines_report n 0 (ps ++ x ∷ []) responses' ≡ lines_report n 0 ps responses ++ report_line (n + length ps) v ∷ []

  module _ (n : ℕ) (p : Snapshot) (a : Keepers M G) (ps : List Parsed) (responses : List Response) (q : Snapshot) (b : Keepers M G) (ran : Ran m g p a (flat_map request_in ps) responses q b) where
    responses_long : 0 + length (flat_map request_in ps) ≡ length responses
    responses_long = let h = ran_length m g p a (flat_map request_in ps) responses q b ran in omega arith

    -- a line that makes no call
    further_quiet : (x : Parsed) (v : Result Answers SheetFault) → request_in x ≡ [] → ((t : Response) → line_answers x t ≡ v) → Further n p a ps responses x v q b
    further_quiet x v none is =
        let asked : flat_map request_in ps ≡ flat_map request_in (ps ++ x ∷ []) = sym (append-nil (flat_map request_in ps)) ∙ ap (λ rs. flat_map request_in ps ++ rs) (sym none) ∙ flat_map_more request_in [] ps x in
        record {
          responses' = responses ++ [];
          ran = subst₂ (λ rs ts. Ran m g p a rs ts q b) asked (sym (append-nil responses)) ran;
          reported = lines_more n 0 ps x responses [] responses_long ∙ ap (λ w. lines_report n 0 ps responses ++ report_line (n + length ps) w ∷ []) (is (get_or (responses ++ []) (length responses) (Err Misplaced)));
        }

    module _ {B : Type 0} (s : view.Ghosts B) (keepers : B → Keepers M G)
        (goes : (x : B) (es : Entries) (y : B) → s.goes x es y → KeepersGoOn m g (keepers x) es (keepers y))
        (money : (x : B) → (s.snapshot x).money ≡ m.meaning (keepers x).money) (goods : (x : B) → (s.snapshot x).goods ≡ g.meaning (keepers x).goods) where
      stepped : (x : B) (r : Request) (t : Response) (y : B) → Steps s x r t y → Stepped (λ es. KeepersGoOn m g (keepers x) es (keepers y)) (s.snapshot x) r t (s.snapshot y)
      stepped x r t y h = record { responded = h.responded; ledger = h.ledger; money = h.money; goods = h.goods; keepers = goes x _ y h.keepers }

      -- any line
      further : (x : B) → s.snapshot x ≡ q → keepers x ≡ b → (l : Parsed) (v : Result Answers SheetFault) (y : B) → LineRun s x l v y → Further n p a ps responses l v (s.snapshot y) (keepers y)
      further x isq isb (Ok (Instrument r)) v y run = subst₂ (Further n p a ps responses (Ok (Instrument r)) v) (sym isq ∙ ap s.snapshot (sym run.1)) (sym isb ∙ ap keepers (sym run.1)) (further_quiet (Ok (Instrument r)) v refl (λ t. sym run.0))
      further x isq isb (Err f) v y run = subst₂ (Further n p a ps responses (Err f) v) (sym isq ∙ ap s.snapshot (sym run.1)) (sym isb ∙ ap keepers (sym run.1)) (further_quiet (Err f) v refl (λ t. sym run.0))
      further x isq isb (Ok (Call c)) v y run =
          let t = run.0 in
          record {
            responses' = responses ++ t ∷ [];
            ran = subst (λ rs. Ran m g p a rs (responses ++ t ∷ []) (s.snapshot y) (keepers y)) (flat_map_more request_in [] ps (Ok (Call c)))
                (ran_more m g p a (flat_map request_in ps) responses (s.snapshot x) (keepers x) (subst₂ (Ran m g p a (flat_map request_in ps) responses) (sym isq) (sym isb) ran) (Make c) t (s.snapshot y) (keepers y) (stepped x (Make c) t y run.2) (money y) (goods y));
            reported = lines_more n 0 ps (Ok (Call c)) responses (t ∷ []) responses_long
                ∙ ap (λ w. lines_report n 0 ps responses ++ report_line (n + length ps) w ∷ []) (ap answers_of (get_or_push responses t (Err Misplaced) (length responses) refl) ∙ sym run.1);
          }

  -- the lines run so far, and the lines that are left
  pub record Running (p : Snapshot) (a : Keepers M G) (lines : List (List ℕ)) (before : Report) (left : List (List ℕ)) (after : Report) (q : Snapshot) (b : Keepers M G) : Type 0 where
    pub parsed : List Parsed
    pub responses : List Response
    pub all : parsed ++ parsed_from true left ≡ parsed_from true lines
    pub ran : Ran m g p a (flat_map request_in parsed) responses q b
    pub written : Adds (text_of before) (report_text (lines_report (before.lines + 1) 0 parsed responses)) (text_of after)
    pub counted : after.lines ≡ before.lines + length parsed
    pub few : after.lines + length left ≡ before.lines + length lines

  pub running_none : (p : Snapshot) (a : Keepers M G) (lines left : List (List ℕ)) (before : Report) → left ≡ lines → Running p a lines before left before p a
  running_none p a lines left before same = record {
    parsed = [];
    responses = [];
    all = ap (parsed_from true) same;
    ran = ran_none m g p p a a [] refl refl refl;
    written = nothing _ _ refl;
    counted = omega arith;
    few = ap (λ ls. before.lines + length ls) same;
  }

  module _ {B : Type 0} (s : view.Ghosts B) (keepers : B → Keepers M G)
      (goes : (x : B) (es : Entries) (y : B) → s.goes x es y → KeepersGoOn m g (keepers x) es (keepers y))
      (money : (x : B) → (s.snapshot x).money ≡ m.meaning (keepers x).money) (goods : (x : B) → (s.snapshot x).goods ≡ g.meaning (keepers x).goods) where
    pub running_more : (p : Snapshot) (a : Keepers M G) (lines : List (List ℕ)) (before : Report) (left : List (List ℕ)) (mid : Report) (x : B) → Running p a lines before left mid (s.snapshot x) (keepers x)
        → (line : List ℕ) (left' : List (List ℕ)) → left ≡ line ∷ left' → (v : Result Answers SheetFault) (y : B) → LineRun s x (timely true (read_line line)) v y
        → (after : Report) → Adds (text_of mid) (line_text (report_line (mid.lines + 1) v)) (text_of after) → after.lines ≡ mid.lines + 1 → Running p a lines before left' after (s.snapshot y) (keepers y)
    running_more p a lines before left mid x so line left' next v y run after adds step =
        let l : Parsed = timely true (read_line line) in
        let n : ℕ = before.lines + 1 in
        let on : Further n p a so.parsed so.responses l v (s.snapshot y) (keepers y) = further n p a so.parsed so.responses (s.snapshot x) (keepers x) so.ran s keepers goes money goods x refl refl l v y run in
        let at : mid.lines + 1 ≡ n + length so.parsed = omega (arith, so.counted) in
        record {
          parsed = so.parsed ++ l ∷ [];
          responses = on.responses';
          all = append_assoc so.parsed (l ∷ []) (parsed_from true left') ∙ ap (λ ls. so.parsed ++ parsed_from true ls) (sym next) ∙ so.all;
          ran = on.ran;
          written = subst (λ ls. Adds (text_of before) (report_text ls) (text_of after)) (sym on.reported)
              (text_more (lines_report n 0 so.parsed so.responses) (report_line (n + length so.parsed) v) so.written (subst (λ i. Adds (text_of mid) (line_text (report_line i v)) (text_of after)) at adds));
          counted = omega (arith, step, so.counted, length_push so.parsed l);
          few = omega (arith, step, so.few, ap length next);
        }

  pub running_done : (p : Snapshot) (a : Keepers M G) (lines : List (List ℕ)) (before : Report) (left : List (List ℕ)) (after : Report) (q : Snapshot) (b : Keepers M G) → Running p a lines before left after q b → left ≡ [] → LinesRun m g p a lines before after q b
  running_done p a lines before left after q b so none =
      let all : so.parsed ≡ parsed_from true lines = sym (append-nil so.parsed) ∙ ap (λ ls. so.parsed ++ parsed_from true ls) (sym none) ∙ so.all in
      record {
        responses = so.responses;
        run = subst (λ ps. Ran m g p a (flat_map request_in ps) so.responses q b) all so.ran;
        written = subst (λ ps. Adds (text_of before) (report_text (lines_report (before.lines + 1) 0 ps so.responses)) (text_of after)) all so.written;
      }
