-- One line after another.
use Rattle.std.proofs.Common.{◌≡◌, ℕ, ◌+◌, ◌<◌, ◌≤◌, Bool, true, false, cond, count_by, eqb, List, [], ◌∷◌, length, Some, None, Option, unwrap_or, sym, refl, ap, ◌∙◌, arith, Bor}
use Rattle.std.proofs.lemmas.List.Sums.{count_by-le-length}
use Rattle.sheet.specs.Pieces.{pieces, pieces_after, fronted}
use Rattle.sheet.specs.Sheets.{trimmed, lines_of, LinesLaw}
use Rattle.sheet.proofs.Cuts.{pieces_some, pieces_count, alone, followed}

pub no_line : (bs : List ℕ) → length bs ≡ 0 → lines_of bs ≡ []
unfolding pieces lines_of
no_line [] l = refl
no_line (b ∷ bs) l = absurd (omega arith)

fronted_not : (b : ℕ) (qs : List (List ℕ)) → fronted (b ∷ []) qs ≡ [] ∷ [] → ⊥
fronted_not b [] e = cc
fronted_not b (q ∷ qs) e = cc

not_nothing : (m b : ℕ) (bs : List ℕ) (t : Bool) → cond t ([] ∷ pieces m bs) (fronted (b ∷ []) (pieces m bs)) ≡ [] ∷ [] → ⊥
not_nothing m b bs true e = let k : pieces m bs ≡ [] = cc in omega (arith, ap length k, pieces_some m bs)
not_nothing m b bs false e = fronted_not b (pieces m bs) e

trimmed_more : (p : List ℕ) (qs : List (List ℕ)) → 0 < length qs → trimmed (p ∷ qs) ≡ p ∷ trimmed qs
trimmed_more p [] l = absurd (omega arith)
trimmed_more p (q ∷ qs) l = refl

trimmed_last : (bs p : List ℕ) → 0 < length bs → pieces 10 bs ≡ p ∷ [] → trimmed (p ∷ []) ≡ p ∷ []
unfolding pieces
trimmed_last [] p l e = absurd (omega arith)
trimmed_last (b ∷ bs) [] l e = absurd (not_nothing 10 b bs (eqb b 10) e)
trimmed_last (b ∷ bs) (c ∷ p) l e = refl

pub next_line : (bs p : List ℕ) (o : Option (Bor (List ℕ))) (d : Bor (List ℕ)) → 0 < length bs → d.now ≡ [] → pieces 10 bs ≡ p ∷ pieces_after 10 o → lines_of bs ≡ p ∷ lines_of (unwrap_or o d).now
unfolding lines_of
next_line bs p None d l n e = ap trimmed e ∙ trimmed_last bs p l e ∙ ap (λ q. p ∷ q) (sym (ap lines_of n ∙ no_line [] refl))
next_line bs p (Some t) d l n e = ap trimmed e ∙ trimmed_more p (pieces 10 t.now) (pieces_some 10 t.now)

-- a sheet with a byte has a line
trimmed_some : (ps : List (List ℕ)) → 0 < length ps → (ps ≡ [] ∷ [] → ⊥) → trimmed ps ≡ [] → ⊥
trimmed_some [] l n e = omega (arith, l)
trimmed_some ([] ∷ []) l n e = n refl
trimmed_some ((b ∷ p) ∷ []) l n e = cc
trimmed_some (p ∷ q ∷ ps) l n e = let h : p ∷ trimmed (q ∷ ps) ≡ [] = sym (trimmed_more p (q ∷ ps) (omega arith)) ∙ e in cc

pub lines_some : (bs : List ℕ) → lines_of bs ≡ [] → bs ≡ []
unfolding pieces lines_of
lines_some [] e = refl
lines_some (b ∷ bs) e = absurd (trimmed_some (pieces 10 (b ∷ bs)) (pieces_some 10 (b ∷ bs)) (not_nothing 10 b bs (eqb b 10)) e)

pub lines_law : LinesLaw
unfolding lines_of
lines_law = record {
  empty = no_line [] refl;
  ended = λ l rest c. ap trimmed (followed 10 l rest c) ∙ trimmed_more l (pieces 10 rest) (pieces_some 10 rest);
  open_ended = λ l c some. ap trimmed (alone 10 l c) ∙ trimmed_last l l some (alone 10 l c);
}

trimmed_long : (ps : List (List ℕ)) → length (trimmed ps) ≤ length ps
trimmed_long [] = omega arith
trimmed_long ([] ∷ []) = omega arith
trimmed_long ((b ∷ p) ∷ []) = omega arith
trimmed_long (p ∷ q ∷ ps) = omega (arith, trimmed_long (q ∷ ps))

-- nor more than feeds and one
pub lines_within : (bs : List ℕ) → length (lines_of bs) ≤ 1 + count_by (λ b. eqb b 10) bs
unfolding lines_of
lines_within bs = omega (arith, trimmed_long (pieces 10 bs), pieces_count 10 bs)

-- there are hardly more lines than bytes
pub lines_few : (bs : List ℕ) → length (lines_of bs) ≤ length bs + 1
unfolding lines_of
lines_few bs = omega (arith, trimmed_long (pieces 10 bs), pieces_count 10 bs, count_by-le-length (λ b. eqb b 10) bs)
