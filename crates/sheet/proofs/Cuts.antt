-- A text and its pieces: one step along it, and from pieces to text and back.
use Rattle.std.proofs.Common.{◌≡◌, ℕ, ◌+◌, ◌-◌, ◌<◌, Bool, count_by, true, false, cond, not, ◌&&◌, eqb, List, [], ◌∷◌, ◌++◌, length, get_or, take, drop, sym, refl, ap, ◌∙◌, subst, append_assoc, append-nil, zero-add, arith, length-append}
use native.Mathlib.Nat.{sub-zero}
use Rattle.std.proofs.lemmas.List.{take_at, take_rest, length_push}
use Rattle.std.proofs.lemmas.Bool.{and_parts, eq-eqb, eqb-true, eqb-false, ne_eqb, not-true, cond-true, cond-false, cond_both}
use Rattle.std.proofs.lemmas.List.Recursion.{is_count_by}
use Rattle.sheet.specs.Pieces.{lacks, pieces, fronted, parts, first_of, others_of, with_commas}

fronted_on : (p : List ℕ) (b : ℕ) (qs : List (List ℕ)) → fronted p (fronted (b ∷ []) qs) ≡ fronted (p ++ b ∷ []) qs
fronted_on p b [] = refl
fronted_on p b (q ∷ qs) = ap (λ l. l ∷ qs) (sym (append_assoc p (b ∷ []) q))

fronted_none : (b : ℕ) (t : Bool) (qs : List (List ℕ)) → fronted [] (cond t ([] ∷ qs) (fronted (b ∷ []) qs)) ≡ cond t ([] ∷ qs) (fronted (b ∷ []) qs)
fronted_none b true qs = refl
fronted_none b false [] = refl
fronted_none b false (q ∷ qs) = refl

none_first : (m : ℕ) (line : List ℕ) → pieces m line ≡ fronted [] (pieces m line)
unfolding pieces
none_first m [] = refl
none_first m (b ∷ bs) = sym (fronted_none b (eqb b m) (pieces m bs))

pub pieces_mark : (m : ℕ) (bs : List ℕ) → pieces m (m ∷ bs) ≡ [] ∷ pieces m bs
unfolding pieces
pieces_mark m bs = cond-true _ _ _ (eq-eqb m m refl)

pub pieces_other : (m b : ℕ) (bs : List ℕ) → (b ≡ m → ⊥) → pieces m (b ∷ bs) ≡ fronted (b ∷ []) (pieces m bs)
unfolding pieces
pieces_other m b bs ne = cond-false _ _ _ (ne_eqb b m ne)

-- the first n bytes of the line hold no mark, and left is the rest
pub record Along (m : ℕ) (line : List ℕ) (n : ℕ) (left : List ℕ) : Type 0 where
  pub front : List ℕ
  pub split : line ≡ front ++ left
  pub long : length front ≡ n
  pub within : n + length left ≡ length line
  pub so : pieces m line ≡ fronted front (pieces m left)

pub start : (m : ℕ) (line : List ℕ) → Along m line 0 line
start m line = record { front = []; split = refl; long = refl; within = zero-add _; so = none_first m line }

pub before : (m : ℕ) (line : List ℕ) (n : ℕ) (left : List ℕ) (h : Along m line n left) → take n line ≡ h.front
before m line n left h = ap (take n) h.split ∙ take_at h.front left n h.long

-- what a slice pattern has as the rest
abbrev pub tail : List ℕ → List ℕ
tail left = take (length left - 1) (drop 1 left)

pub at_mark : (m : ℕ) (line : List ℕ) (n : ℕ) (left : List ℕ) → Along m line n left → 0 < length left → get_or left 0 0 ≡ m → pieces m line ≡ take (n - 0) line ∷ pieces m (tail left)
at_mark m line n [] h l e = absurd (omega arith)
at_mark m line n (b ∷ t) h l e =
    h.so ∙ ap (λ c. fronted h.front (pieces m (c ∷ t))) e ∙ ap (fronted h.front) (pieces_mark m t) ∙ ap (λ p. p ∷ pieces m t) (append-nil h.front ∙ sym (before m line n _ h) ∙ ap (λ m. take m line) (sym (sub-zero n))) ∙ ap (λ r. take (n - 0) line ∷ pieces m r) (sym (take_rest (b ∷ t) 1))

pub past : (m : ℕ) (line : List ℕ) (n : ℕ) (left : List ℕ) → Along m line n left → 0 < length left → (get_or left 0 0 ≡ m → ⊥) → Along m line (n + 1) (tail left)
past m line n [] h l ne = absurd (omega arith)
past m line n (b ∷ t) h l ne = subst (Along m line (n + 1)) (sym (take_rest (b ∷ t) 1)) (record {
  front = h.front ++ b ∷ [];
  split = h.split ∙ sym (append_assoc h.front (b ∷ []) t);
  long = omega (arith, length_push h.front b, h.long);
  within = omega (arith, h.within);
  so = h.so ∙ ap (fronted h.front) (pieces_other m b t ne) ∙ fronted_on h.front b (pieces m t);
})

pub at_end : (m : ℕ) (line : List ℕ) (n : ℕ) (left : List ℕ) → Along m line n left → length left ≡ 0 → pieces m line ≡ line ∷ []
unfolding pieces
at_end m line n [] h none = h.so ∙ ap (λ p. p ∷ []) (sym h.split)
at_end m line n (b ∷ t) h none = absurd (omega arith)

fronted_some : (p : List ℕ) (qs : List (List ℕ)) → 0 < length (fronted p qs)
fronted_some p [] = omega arith
fronted_some p (q ∷ qs) = omega arith

pub pieces_some : (m : ℕ) (line : List ℕ) → 0 < length (pieces m line)
unfolding pieces
pieces_some m [] = omega arith
pieces_some m (b ∷ bs) = cond_both (eqb b m) ([] ∷ pieces m bs) (fronted (b ∷ []) (pieces m bs)) (λ ps. 0 < length ps) (λ _. omega arith) (λ _. fronted_some (b ∷ []) (pieces m bs))

-- one more than the marks
count_on : (b : ℕ) (t : Bool) (qs : List (List ℕ)) → 0 < length qs → length (cond t ([] ∷ qs) (fronted (b ∷ []) qs)) - 1 ≡ cond t (1 + (length qs - 1)) (length qs - 1)
count_on b true qs l = omega arith
count_on b false [] l = absurd (omega arith)
count_on b false (q ∷ qs) l = refl

pub pieces_count : (m : ℕ) (bs : List ℕ) → length (pieces m bs) ≡ 1 + count_by (λ b. eqb b m) bs
unfolding pieces
pieces_count m bs = omega (arith, pieces_some m bs, is_count_by (λ bs. length (pieces m bs) - 1) (λ b. eqb b m) refl (λ b bs. count_on b (eqb b m) (pieces m bs) (pieces_some m bs)) bs)

-- a text without the mark is one piece, and ends at the mark that follows it
pub alone : (m : ℕ) (p : List ℕ) → lacks m p ≡ true → pieces m p ≡ p ∷ []
unfolding pieces
alone m [] c = refl
alone m (b ∷ p) c = let h = and_parts (not (eqb b m)) (lacks m p) c in pieces_other m b p (eqb-false b m (not-true _ h.0)) ∙ ap (fronted (b ∷ [])) (alone m p h.1)

pub followed : (m : ℕ) (p bs : List ℕ) → lacks m p ≡ true → pieces m (p ++ m ∷ bs) ≡ p ∷ pieces m bs
followed m [] bs c = pieces_mark m bs
followed m (b ∷ p) bs c = let h = and_parts (not (eqb b m)) (lacks m p) c in pieces_other m b (p ++ m ∷ bs) (eqb-false b m (not-true _ h.0)) ∙ ap (fronted (b ∷ [])) (followed m p bs h.1)

-- parts joined by commas are cut there again
abbrev pub all_lack : ℕ → List (List ℕ) → Bool
all_lack m [] = true
all_lack m (p ∷ ps) = lacks m p && all_lack m ps

pub cut_joined : (p : List ℕ) (ps : List (List ℕ)) → all_lack 44 (p ∷ ps) ≡ true → parts (with_commas (p ∷ ps)) ≡ p ∷ ps
cut_joined p [] c = alone 44 p (and_parts (lacks 44 p) true c).0
cut_joined p (q ∷ ps) c = let h = and_parts (lacks 44 p) (all_lack 44 (q ∷ ps)) c in followed 44 p (with_commas (q ∷ ps)) h.0 ∙ ap (λ qs. p ∷ qs) (cut_joined q ps h.1)

-- and a line is its parts joined
comma_front : (ps : List (List ℕ)) → 0 < length ps → with_commas ([] ∷ ps) ≡ 44 ∷ with_commas ps
comma_front [] l = absurd (omega arith)
comma_front (q ∷ ps) l = refl

byte_front : (b : ℕ) (ps : List (List ℕ)) → 0 < length ps → with_commas (fronted (b ∷ []) ps) ≡ b ∷ with_commas ps
byte_front b [] l = absurd (omega arith)
byte_front b (q ∷ []) l = refl
byte_front b (q ∷ r ∷ ps) l = refl

joined_by : (b : ℕ) (bs : List ℕ) (t : Bool) → eqb b 44 ≡ t → with_commas (parts bs) ≡ bs → with_commas (cond t ([] ∷ parts bs) (fronted (b ∷ []) (parts bs))) ≡ b ∷ bs
joined_by b bs true e h = comma_front (parts bs) (pieces_some 44 bs) ∙ ap (λ l. 44 ∷ l) h ∙ ap (λ c. c ∷ bs) (sym (eqb-true b 44 e))
joined_by b bs false e h = byte_front b (parts bs) (pieces_some 44 bs) ∙ ap (λ l. b ∷ l) h

pub joined_parts : (bs : List ℕ) → with_commas (parts bs) ≡ bs
unfolding pieces
joined_parts [] = refl
joined_parts (b ∷ bs) = joined_by b bs (eqb b 44) refl (joined_parts bs)

pub first_others : (ps : List (List ℕ)) → 0 < length ps → ps ≡ first_of ps ∷ others_of ps
first_others [] l = absurd (omega arith)
first_others (p ∷ ps) l = refl

-- the bytes of the parts, and one more for each
abbrev pub sizes : List (List ℕ) → ℕ
sizes [] = 0
sizes (p ∷ ps) = length p + 1 + sizes ps

pub joined_length : (p : List ℕ) (ps : List (List ℕ)) → length (with_commas (p ∷ ps)) + 1 ≡ sizes (p ∷ ps)
joined_length p [] = omega arith
joined_length p (q ∷ ps) = omega (arith, length-append p (44 ∷ with_commas (q ∷ ps)), joined_length q ps)
