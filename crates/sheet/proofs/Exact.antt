-- A line is read from its text and from no other, and what is not read has the fault that is given.
use Rattle.std.proofs.Common.{◌≡◌, ℕ, ◌+◌, ◌≤◌, Bool, true, false, cond, eqb, ltb, List, [], ◌∷◌, length, get_or, drop, Some, None, Ok, Err, Option, Result, sym, refl, ap, ◌∙◌, subst, inl, inr, arith, lit≤}
use Rattle.std.proofs.lemmas.List.{drop_all, drop_more}
use Rattle.std.proofs.lemmas.Bool.{and_from, and_parts, cond-true, cond-false, eq-eqb, eqb-true, eqb-false, false≢true, le-ltb, ltb-true, ltb-false}
use Rattle.rules.specs.declared.calls.Call.TheVariants.{Deposit, Withdraw, Shift, DepositGoods, WithdrawGoods, Place, Cancel, Execute, Rerate, EndTrading, Settle, EndSession}
use Rattle.rules.specs.declared.contracts.Event.TheVariants.{Funding, Delivery, Default}
use Rattle.rules.specs.declared.rows.Row.{Row}
use Rattle.sheet.specs.declared.outcome.Line.{Line}
use Rattle.sheet.specs.declared.outcome.Line.TheVariants.{Instrument, Call}
use Rattle.sheet.specs.declared.faults.LineFault.{LineFault}
use Rattle.sheet.specs.declared.faults.LineFault.TheVariants.{LongLine, UnknownVerb, FieldCount, NotInForm}
use Rattle.sheet.specs.Readings.{FirstMisfit, Begins, Faulty, Reading}
use Rattle.sheet.specs.Forms.{Form, Value, value_in, value_text}
use Rattle.sheet.specs.Lines.{Maker, made, then_at, read_from, line_in, by_verb, most_bytes, read_line}
use Rattle.sheet.specs.Pieces.{lacks, parts, first_of, others_of, with_commas}
use Rattle.sheet.specs.Texts.{Values, texts, AllFit, Entry, entry_of, entry_text, line_text, Fit, ReadsExactly}
use Rattle.sheet.specs.Verbs.{Verb, Ins, Dep, Wdr, Shf, Gin, Got, Ord, Cxl, Trd, Rte, Eot, Fnd, Dlv, Dft, Eod, verbs, word, forms_of, is_word, spelled_from, first_spelled, names_row, verb_in}
use Rattle.sheet.proofs.Cuts.{pieces_some, all_lack, cut_joined, joined_parts, first_others, sizes, joined_length}
use Rattle.sheet.proofs.Values.{gives, back, misfit, no_comma, most, at_most}

-- the line that a maker makes of its values
abbrev applied : (fs : List Form) → Maker fs → Values fs → Line
applied [] make xs = make
applied (f ∷ fs) make xs = applied fs (make xs.0) xs.1

-- fields that were read
record WasRead (fs : List Form) (ps : List (List ℕ)) (make : Maker fs) (l : Line) : Type 0 where
  pub values : Values fs
  pub fit : AllFit fs values
  pub spelled : ps ≡ texts fs values
  pub is : applied fs make values ≡ l

read_one : (place : ℕ) (f : Form) (fs : List Form) (p : List ℕ) (ps : List (List ℕ)) (make : Maker (f ∷ fs)) (l : Line) (o : Option (Value f)) → value_in f p ≡ o → then_at place o (λ x. read_from (place + 1) fs ps (make x)) ≡ Ok l → ((x : Value f) → read_from (place + 1) fs ps (make x) ≡ Ok l → WasRead fs ps (make x) l) → WasRead (f ∷ fs) (p ∷ ps) make l
read_one place f fs p ps make l None s e go = cc
read_one place f fs p ps make l (Some x) s e go =
    let g = gives f p x s in
    let r = go x e in
    record { values = (x, r.values); fit = (g.0, r.fit); spelled = ap (λ q. q ∷ ps) g.1 ∙ ap (λ qs. value_text f x ∷ qs) r.spelled; is = r.is }

read_gives : (place : ℕ) (fs : List Form) (ps : List (List ℕ)) (make : Maker fs) (l : Line) → length ps ≡ length fs → read_from place fs ps make ≡ Ok l → WasRead fs ps make l
read_gives place [] [] make l n e = record { values = tt; fit = tt; spelled = refl; is = cc }
read_gives place [] (p ∷ ps) make l n e = absurd (omega arith)
read_gives place (f ∷ fs) [] make l n e = absurd (omega arith)
read_gives place (f ∷ fs) (p ∷ ps) make l n e = read_one place f fs p ps make l (value_in f p) refl e (λ x e. read_gives (place + 1) fs ps (make x) l (omega arith) e)

read_back : (place : ℕ) (fs : List Form) (xs : Values fs) (make : Maker fs) → AllFit fs xs → read_from place fs (texts fs xs) make ≡ Ok (applied fs make xs)
read_back place [] xs make h = refl
read_back place (f ∷ fs) xs make h =
    ap (λ o. then_at place o (λ x. read_from (place + 1) fs (texts fs xs.1) (make x))) (back f xs.0 h.0)
    ∙ read_back (place + 1) fs xs.1 (make xs.0) h.1

-- fields that were not read
abbrev Misfits : ℕ → List Form → List (List ℕ) → LineFault → Type 0
Misfits place fs ps e = (k : ℕ) × (e ≡ NotInForm k) × FirstMisfit place fs ps k

misfit_one : (place : ℕ) (f : Form) (fs : List Form) (ps : List (List ℕ)) (make : Maker (f ∷ fs)) (e : LineFault) (o : Option (Value f)) → value_in f (first_of ps) ≡ o → then_at place o (λ x. read_from (place + 1) fs (others_of ps) (make x)) ≡ Err e → ((x : Value f) → read_from (place + 1) fs (others_of ps) (make x) ≡ Err e → Misfits (place + 1) fs (others_of ps) e) → Misfits place (f ∷ fs) ps e
misfit_one place f fs ps make e None s h go = (place, cc, inl (misfit f (first_of ps) s, refl))
misfit_one place f fs ps make e (Some x) s h go =
    let g = gives f (first_of ps) x s in
    let r = go x h in
    (r.0, r.1, inr ((x, g.0, g.1), r.2))

read_misfits : (place : ℕ) (fs : List Form) (ps : List (List ℕ)) (make : Maker fs) (e : LineFault) → read_from place fs ps make ≡ Err e → Misfits place fs ps e
read_misfits place [] ps make e h = cc
read_misfits place (f ∷ fs) ps make e h = misfit_one place f fs ps make e (value_in f (first_of ps)) refl h (λ x h. read_misfits (place + 1) fs (others_of ps) (make x) e h)

-- the verbs
spelled_on : (i : ℕ) (w p : List ℕ) → length p ≡ i + length w → spelled_from i w p ≡ true → drop i p ≡ w
spelled_on i [] p l e = drop_all i p (omega arith)
spelled_on i (c ∷ w) p l e =
    let h = and_parts (eqb (get_or p i 0) c) (spelled_from (i + 1) w p) e in
    drop_more p i 0 (omega arith) ∙ ap (λ b. b ∷ drop (i + 1) p) (eqb-true _ c h.0) ∙ ap (λ bs. c ∷ bs) (spelled_on (i + 1) w p (omega arith) h.1)

spells : (w p : List ℕ) → is_word w p ≡ true → p ≡ w
spells w p e = let h = and_parts (eqb (length p) (length w)) (spelled_from 0 w p) e in spelled_on 0 w p (omega (arith, eqb-true (length p) (length w) h.0)) h.1

first_gives : (vs : List Verb) (p : List ℕ) (v : Verb) → first_spelled vs p ≡ Some v → p ≡ word v
first_gives [] p v e = cc
first_gives (w ∷ vs) p v e = by (is_word (word w) p) refl e (first_gives vs p v)
  where
    by : (t : Bool) → is_word (word w) p ≡ t → cond t (Some w) (first_spelled vs p) ≡ Some v → (first_spelled vs p ≡ Some v → p ≡ word v) → p ≡ word v
    by true s e go = let is : w ≡ v = cc in spells (word w) p s ∙ ap word is
    by false s e go = go e

-- the bytes that the fields take at most, with a comma for each
abbrev room : List Form → ℕ
room [] = 0
room (f ∷ fs) = most f + 1 + room fs

texts_room : (fs : List Form) (xs : Values fs) → AllFit fs xs → sizes (texts fs xs) ≤ room fs
texts_room [] xs h = omega arith
texts_room (f ∷ fs) xs h = omega (arith, at_most f xs.0 h.0, texts_room fs xs.1 h.1)

texts_lack : (fs : List Form) (xs : Values fs) → AllFit fs xs → all_lack 44 (texts fs xs) ≡ true
texts_lack [] xs h = refl
texts_lack (f ∷ fs) xs h = and_from _ _ (no_comma f xs.0 h.0) (texts_lack fs xs.1 h.1)

-- a verb's word is read as the verb and has no comma, and its lines are not too long
abbrev Plain : Verb → Type 0
Plain v = (verb_in (word v) ≡ Some v) × (lacks 44 (word v) ≡ true) × (length (word v) + room (forms_of v) ≤ most_bytes)

plain : (v : Verb) → Plain v
plain Ins = (refl, refl, lit≤ tt)
plain Dep = (refl, refl, lit≤ tt)
plain Wdr = (refl, refl, lit≤ tt)
plain Shf = (refl, refl, lit≤ tt)
plain Gin = (refl, refl, lit≤ tt)
plain Got = (refl, refl, lit≤ tt)
plain Ord = (refl, refl, lit≤ tt)
plain Cxl = (refl, refl, lit≤ tt)
plain Trd = (refl, refl, lit≤ tt)
plain Rte = (refl, refl, lit≤ tt)
plain Eot = (refl, refl, lit≤ tt)
plain Fnd = (refl, refl, lit≤ tt)
plain Dlv = (refl, refl, lit≤ tt)
plain Dft = (refl, refl, lit≤ tt)
plain Eod = (refl, refl, lit≤ tt)

-- an entry is that of the line made of it, and a line is made of its entry
entry_made : (v : Verb) (xs : Values (forms_of v)) → entry_of (applied (forms_of v) (made v) xs) ≡ (v, xs)
entry_made Ins xs = refl
entry_made Dep xs = refl
entry_made Wdr xs = refl
entry_made Shf xs = refl
entry_made Gin xs = refl
entry_made Got xs = refl
entry_made Ord xs = refl
entry_made Cxl xs = refl
entry_made Trd xs = refl
entry_made Rte xs = refl
entry_made Eot xs = refl
entry_made Fnd xs = refl
entry_made Dlv xs = refl
entry_made Dft xs = refl
entry_made Eod xs = refl

abbrev line_of : Entry → Line
line_of e = applied (forms_of e.0) (made e.0) e.1

made_entry : (l : Line) → line_of (entry_of l) ≡ l
made_entry (Instrument r) = refl
made_entry (Call (Deposit m p a)) = refl
made_entry (Call (Withdraw m p a)) = refl
made_entry (Call (Shift m p a)) = refl
made_entry (Call (DepositGoods m i kg)) = refl
made_entry (Call (WithdrawGoods m i kg)) = refl
made_entry (Call (Place o)) = refl
made_entry (Call (Cancel n)) = refl
made_entry (Call (Execute t)) = refl
made_entry (Call (Rerate i r)) = refl
made_entry (Call EndTrading) = refl
made_entry (Call (Settle n Funding)) = refl
made_entry (Call (Settle n (Delivery kg))) = refl
made_entry (Call (Settle n Default)) = refl
made_entry (Call EndSession) = refl

-- from what was read to its text
abbrev Spelled : List ℕ → Line → Type 0
Spelled bs l = Fit l × (bs ≡ line_text l)

was_entered : (v : Verb) (ps : List (List ℕ)) (l : Line) → WasRead (forms_of v) ps (made v) l → Spelled (with_commas (word v ∷ ps)) l
was_entered v ps l r =
    subst (Spelled (with_commas (word v ∷ ps))) r.is
    (subst (λ e. AllFit (forms_of e.0) e.1 × (with_commas (word v ∷ ps) ≡ entry_text e)) (sym (entry_made v r.values))
    (r.fit, ap (λ qs. with_commas (word v ∷ qs)) r.spelled))

verb_gives : (v : Verb) (ps : List (List ℕ)) (l : Line) → line_in v ps ≡ Ok l → Spelled (with_commas (word v ∷ ps)) l
verb_gives v ps l e = by (eqb (length ps) (length (forms_of v))) refl e
  where
    by : (t : Bool) → eqb (length ps) (length (forms_of v)) ≡ t → cond t (read_from 1 (forms_of v) ps (made v)) (Err FieldCount) ≡ Ok l → Spelled (with_commas (word v ∷ ps)) l
    by true s e = was_entered v ps l (read_gives 1 (forms_of v) ps (made v) l (eqb-true _ _ s) e)
    by false s e = cc

line_gives_by : (bs : List ℕ) (l : Line) (o : Option Verb) → verb_in (first_of (parts bs)) ≡ o → by_verb o (others_of (parts bs)) ≡ Ok l → Spelled bs l
line_gives_by bs l None s e = cc
line_gives_by bs l (Some v) s e =
    let is : with_commas (word v ∷ others_of (parts bs)) ≡ bs = ap (λ p. with_commas (p ∷ others_of (parts bs))) (sym (first_gives verbs _ v s)) ∙ ap with_commas (sym (first_others (parts bs) (pieces_some 44 bs))) ∙ joined_parts bs in
    subst (λ bs. Spelled bs l) is (verb_gives v (others_of (parts bs)) l e)

line_gives : (bs : List ℕ) (l : Line) → read_line bs ≡ Ok l → Spelled bs l
line_gives bs l e = by (ltb most_bytes (length bs)) e
  where
    by : (t : Bool) → cond t (Err LongLine) (by_verb (verb_in (first_of (parts bs))) (others_of (parts bs))) ≡ Ok l → Spelled bs l
    by true e = cc
    by false e = line_gives_by bs l (verb_in (first_of (parts bs))) refl e

-- from a text to what is read
texts_count : (fs : List Form) (xs : Values fs) → length (texts fs xs) ≡ length fs
texts_count [] xs = refl
texts_count (f ∷ fs) xs = omega (arith, texts_count fs xs.1)

entry_back : (v : Verb) (xs : Values (forms_of v)) → AllFit (forms_of v) xs → read_line (entry_text (v, xs)) ≡ Ok (line_of (v, xs))
entry_back v xs h =
    let ps = texts (forms_of v) xs in
    let cut = cut_joined (word v) ps (and_from _ _ (plain v).1 (texts_lack (forms_of v) xs h)) in
    cond-false _ _ _ (le-ltb most_bytes (length (with_commas (word v ∷ ps))) (omega (arith, joined_length (word v) ps, (plain v).2, texts_room (forms_of v) xs h)))
    ∙ ap (λ qs. by_verb (verb_in (first_of qs)) (others_of qs)) cut
    ∙ ap (λ o. by_verb o ps) (plain v).0
    ∙ cond-true _ _ _ (eq-eqb _ _ (texts_count (forms_of v) xs))
    ∙ read_back 1 (forms_of v) xs (made v) h

line_back : (l : Line) → Fit l → read_line (line_text l) ≡ Ok l
line_back l h = entry_back (entry_of l).0 (entry_of l).1 h ∙ ap Ok (made_entry l)

pub reads_exactly : (bs : List ℕ) (r : Result Line LineFault) → r ≡ read_line bs → ReadsExactly bs r
reads_exactly bs r is l = (λ e. line_gives bs l (sym is ∙ e), λ h e. is ∙ ap read_line e ∙ line_back l h)

-- a line that reads as a row has INS for its first field
named : (bs : List ℕ) (r : Row) → read_line bs ≡ Ok (Instrument r) → names_row bs ≡ true
named bs r e =
    let s = line_gives bs (Instrument r) e in
    let xs = (entry_of (Instrument r)).1 in
    let cut = cut_joined (word Ins) (texts (forms_of Ins) xs) (and_from _ _ (plain Ins).1 (texts_lack (forms_of Ins) xs s.0)) in
    ap names_row s.1 ∙ ap (λ qs. is_word (word Ins) (first_of qs)) cut

pub no_row : (bs : List ℕ) → names_row bs ≡ false → (r : Row) → read_line bs ≡ Ok (Instrument r) → ⊥
no_row bs other r e = false≢true (sym other ∙ named bs r e)

-- the fault of what is not read
verb_faulty : (bs : List ℕ) (v : Verb) (e : LineFault) → Begins bs v → line_in v (others_of (parts bs)) ≡ Err e → Faulty bs e
verb_faulty bs v e b h = by (eqb (length (others_of (parts bs))) (length (forms_of v))) refl h
  where
    by : (t : Bool) → eqb (length (others_of (parts bs))) (length (forms_of v)) ≡ t → cond t (read_from 1 (forms_of v) (others_of (parts bs)) (made v)) (Err FieldCount) ≡ Err e → Faulty bs e
    by true s h = let r = read_misfits 1 (forms_of v) (others_of (parts bs)) (made v) e h in subst (Faulty bs) (sym r.1) (v, b, eqb-true _ _ s, r.2)
    by false s h = let k : FieldCount ≡ e = cc in subst (Faulty bs) k (v, b, eqb-false _ _ s)

faulty_by : (bs : List ℕ) (e : LineFault) (o : Option Verb) → length bs ≤ most_bytes → verb_in (first_of (parts bs)) ≡ o → by_verb o (others_of (parts bs)) ≡ Err e → Faulty bs e
faulty_by bs e None l s h =
    let k : UnknownVerb ≡ e = cc in
    subst (Faulty bs) k (l, λ v w. cc (s, ap verb_in w, (plain v).0))
faulty_by bs e (Some v) l s h = verb_faulty bs v e (l, first_gives verbs _ v s) h

line_faulty : (bs : List ℕ) (e : LineFault) → read_line bs ≡ Err e → Faulty bs e
line_faulty bs e h = by (ltb most_bytes (length bs)) refl h
  where
    by : (t : Bool) → ltb most_bytes (length bs) ≡ t → cond t (Err LongLine) (by_verb (verb_in (first_of (parts bs))) (others_of (parts bs))) ≡ Err e → Faulty bs e
    by true s h = let k : LongLine ≡ e = cc in subst (Faulty bs) k (ltb-true most_bytes (length bs) s)
    by false s h = faulty_by bs e (verb_in (first_of (parts bs))) (ltb-false most_bytes (length bs) s) refl h

pub reading : (bs : List ℕ) (r : Result Line LineFault) → r ≡ read_line bs → Reading bs r
reading bs (Ok l) is = line_gives bs l (sym is)
reading bs (Err e) is = line_faulty bs e (sym is)
