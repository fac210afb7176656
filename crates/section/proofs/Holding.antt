-- What as many orders or contracts as can be live hold together.
use Rattle.std.proofs.Common.{◌≡◌, ℕ, ◌+◌, ◌^◌, ◌<◌, ◌≤◌, Bool, true, false, cond, ◌&&◌, List, [], ◌∷◌, length, filter, fold, Option, Iter, refl, sym, ◌∙◌, arith}
use Rattle.std.proofs.lemmas.Iterator.{YieldsList-from_slice}
use Rattle.std.proofs.lemmas.Iterator.Adapters.{YieldsAtMost, fits_from_length, at_most_from_yields_List}
use Rattle.std.proofs.lemmas.List.Sums.{sum_by-cons}
use Rattle.std.specs.Bool.{⊤}
use Rattle.std.specs.Fn.{Called}
use Rattle.std.specs.Iterator.Adapters.{map_source, map_callee, map_steps}
use Rattle.std.specs.Iterator.Runs.{EachRunFrom, WholeRun}
use Rattle.std.specs.List.{sum_by}
use Rattle.std.specs.Slice.Iter.{iter_rest, iter_steps}
use Rattle.std.specs.declared.iter.Map.{Map}
use denote.Param.Members.{Mut}
use Rattle.section.specs.Fits.{most_of_one}

-- all that are live
pub few_items : {A : Type 0} {s : Iter A} (xs : List A) → iter_rest s ≡ xs → length xs ≤ 256 → YieldsAtMost iter_steps s 256
few_items xs rest few = at_most_from_yields_List (YieldsList-from_slice xs rest) few

module _ {S A F : Type 0} {steps : S → Option A → S → Type 0} {s : Map S F} (g : Mut F (A × Unit {0}) ℕ) (f : F) (few : YieldsAtMost steps (map_source s) 256) (callee : map_callee s ≡ f) (each : (x : A) (r : ℕ) (q : F) → Called g f (x, tt) r q → (q ≡ f) × (r ≤ most_of_one)) where
  below : EachRunFrom (map_steps steps g) s (λ p. fold (λ a x. a + x) 0 p.items < 51200000000000001)
  below = fits_from_length g f 256 51200000000000001 few callee (omega arith) (λ x r q k. let said = each x r q k in (said.0, omega (arith, said.1)))

  -- before they are added
  pub holds_fit : EachRunFrom (map_steps steps g) s (λ p. fold (λ a x. a + x) 0 p.items < 2 ^ 64)
  holds_fit p seen from = let h = below p seen from in omega (arith, h)

  -- and when they are
  pub held_bound : (total : ℕ) → (⊤ → WholeRun (map_steps steps g) s (λ p. total ≡ fold (λ a x. a + x) 0 p.items)) → total ≤ 51200000000000000
  held_bound total runs =
      let run = runs tt in
      let h = below run.0 run.0.seen run.1 in
      omega (arith, h, run.3)

-- the sum of those that pass a test, where the others count nothing
module _ {X : Type 0} (p : X → Bool) (f h : X → ℕ) (each : (x : X) → cond (p x) (f x) 0 ≡ h x) where
  one_more : (b : Bool) (x : X) (xs ys : List X) → cond b (f x) 0 ≡ h x → sum_by f xs ≡ sum_by h ys → sum_by f (cond b (x ∷ xs) xs) ≡ sum_by h (x ∷ ys)
  one_more true x xs ys e same = sum_by-cons f x xs ∙ omega (arith, same, e) ∙ sym (sum_by-cons h x ys)
  one_more false x xs ys e same = omega (arith, same, e) ∙ sym (sum_by-cons h x ys)

  pub sum_by-filter : (xs : List X) → sum_by f (filter p xs) ≡ sum_by h xs
  sum_by-filter [] = refl
  sum_by-filter (x ∷ xs) = one_more (p x) x (filter p xs) xs (each x) (sum_by-filter xs)

-- what counts where two tests pass, and where one passes within the other
pub both_pass : (t u : Bool) (v w : ℕ) → (u ≡ true → v ≡ w) → cond (t && u) v 0 ≡ cond t (cond u w 0) 0
both_pass true true v w same = same refl
both_pass true false v w same = refl
both_pass false u v w same = refl
