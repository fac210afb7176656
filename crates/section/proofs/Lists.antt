-- Lists whose elements are changed in place, or of which some are kept.
use Rattle.std.proofs.Common.{◌≡◌, ℕ, ◌+◌, Bool, true, false, cond, not, List, [], ◌∷◌, length, map, count_by, filter, get_or, take, drop, set, ◌<◌, ◌++◌, ◌==◌, sym, refl, subst, ap, ◌∙◌, arith}
use Rattle.std.specs.List.Retain.{RetainsInTurn}
use Rattle.std.proofs.lemmas.Bool.{cond-true, cond-false, eq-eqb, ne_eqb}
use Rattle.std.proofs.lemmas.List.{get_or_default}
use Rattle.std.proofs.lemmas.List.Edits.{map_over_more}
use Rattle.std.proofs.lemmas.List.Filters.{length-filter_both}
use Rattle.std.proofs.lemmas.List.Sums.{length-filter}

-- the elements of a number are changed
abbrev pub changed : {X : Type 0} → (X → ℕ) → ℕ → (X → X) → X → X
changed number n change x = cond (number x == n) (change x) x

not_not : (b : Bool) → b ≡ not (not b)
not_not true = refl
not_not false = refl

module _ {X : Type 0} where
  -- `retain_mut` by a closure that changes no capture: each is changed, and those that then pass the test are kept
  pub changed_and_kept : {S : Type 0} (R : S → X → Bool → S → X → Type 0) (p : X → Bool) (f : X → X) (s : S) → ((x : X) (b : Bool) (t : S) (y : X) → R s x b t y → (b ≡ p (f x)) × (y ≡ f x) × (t ≡ s)) → (xs ys : List X) → RetainsInTurn R s xs ys → ys ≡ filter p (map f xs)
  changed_and_kept R p f s each [] ys h = h
  changed_and_kept R p f s each (x ∷ xs) ys h =
      let said = each x h.0 h.1 h.2 h.3 in
      let rest = changed_and_kept R p f s each xs h.4 (subst (λ t. RetainsInTurn R t xs h.4) said.2 h.5) in
      h.6 ∙ (λ i. cond (said.0 i) (said.1 i ∷ rest i) (rest i))

  -- what a filter drops is what it does not keep
  pub dropped_count : (p : X → Bool) (xs : List X) → length (filter (λ x. not (p x)) xs) + count_by p xs ≡ length xs
  dropped_count p xs =
      let both = length-filter_both (λ x. not (p x)) p (λ x. not_not (p x)) xs in
      let ends = length-filter p xs in
      omega arith

  -- a loop changes, in place, each element of a number: one element on
  module _ (number : X → ℕ) (n : ℕ) (change : X → X) where
    module _ (xs ys : List X) (i : ℕ) (d : X) (long : length ys ≡ length xs) (so_far : ys ≡ map (changed number n change) (take i xs) ++ drop i xs) (h : i < length xs) (after : List X) where
      set_on : (y : X) → y ≡ changed number n change (get_or ys i d) → after ≡ set ys i y → after ≡ map (changed number n change) (take (i + 1) xs) ++ drop (i + 1) xs
      set_on y e is =
          let inside : i < length ys = omega arith in
          is ∙ ap (set ys i) e ∙ map_over_more (changed number n change) xs ys i (get_or ys i d) h so_far (get_or_default ys i d (get_or ys i d) inside)

      pub changed_hit : after ≡ set ys i (change (get_or ys i d)) → number (get_or ys i d) ≡ n → after ≡ map (changed number n change) (take (i + 1) xs) ++ drop (i + 1) xs
      changed_hit is e = set_on _ (sym (cond-true _ _ _ (eq-eqb _ n e))) is

      pub changed_miss : after ≡ set ys i (get_or ys i d) → (number (get_or ys i d) ≡ n → ⊥) → after ≡ map (changed number n change) (take (i + 1) xs) ++ drop (i + 1) xs
      changed_miss is ne = set_on _ (sym (cond-false _ _ _ (ne_eqb _ n ne))) is
