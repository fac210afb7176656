-- Lists: what is found by a number, what is joined, and sums over kept, mapped and appended lists.
use Rattle.std.proofs.Common.{◌≡◌, ℕ, ◌+◌, ◌≤◌, Bool, true, false, cond, not, eqb, ◌⊎◌, List, [], ◌∷◌, ◌++◌, map, is_some, Some, None, sum_by, filter, Option, unwrap_or, sym, refl, ◌∙◌, subst, inl, inr, append_assoc, append-nil, arith}
use Rattle.std.specs.List.{flat_map, AllByRecursion as All}
use Rattle.std.proofs.ByRecursion.{all_kept_by, All-map, All-push, All-weaker}
use Rattle.std.proofs.lemmas.List.Filters.{sum_by-filter_both}
use Rattle.std.proofs.lemmas.List.Sums.{sum_by-cons}
use Rattle.std.proofs.lemmas.Bool.{cases_Bool, eqb-true, ne_eqb}
use Rattle.rules.specs.Terms.{found}

pub some_or_none : {X : Type 0} (x : Option X) → (x ≡ None) ⊎ ((y : X) × (x ≡ Some y))
some_or_none None = inl refl
some_or_none (Some y) = inr (y, refl)

pub joined_push : {X A : Type 0} (f : X → List A) (xs : List X) (x : X) → flat_map f (xs ++ x ∷ []) ≡ flat_map f xs ++ f x
joined_push f [] x = append-nil (f x)
joined_push f (y ∷ xs) x = rw (joined_push f xs x) (sym (append_assoc (f y) (flat_map f xs) (f x)))

pub all_kept_when : {X : Type 0} (p : X → Bool) (P Q : X → Type 0) → ((x : X) → p x ≡ true → P x → Q x) → (xs : List X) → All P xs → All Q (filter p xs)
all_kept_when p P Q h [] a = tt
all_kept_when p P Q h (x ∷ xs) a =
    elim (cases_Bool (p x)) [
      | inl e ↦ rw e (h x e a.0, all_kept_when p P Q h xs a.1)
      | inr e ↦ rw e (all_kept_when p P Q h xs a.1)
    ]

-- ---- the first element of a number

pub found_before : {X : Type 0} (number : X → ℕ) (n : ℕ) (xs ys : List X) (x : X) → found number n xs ≡ Some x → found number n (xs ++ ys) ≡ Some x
found_before number n [] ys x h = let z : ◌≡◌ {A = ℕ} 0 1 = cc in absurd (omega arith)
found_before number n (y ∷ xs) ys x h =
    elim (eqb (number y) n) as (λ v. cond v (Some y) (found number n xs) ≡ Some x → cond v (Some y) (found number n (xs ++ ys)) ≡ Some x) [
      | true ↦ λ k. k
      | false ↦ λ k. found_before number n xs ys x k
    ] h

pub found_later : {X : Type 0} (number : X → ℕ) (n : ℕ) (xs ys : List X) → found number n xs ≡ None → found number n (xs ++ ys) ≡ found number n ys
found_later number n [] ys h = refl
found_later number n (y ∷ xs) ys h =
    elim (eqb (number y) n) as (λ v. cond v (Some y) (found number n xs) ≡ None → cond v (Some y) (found number n (xs ++ ys)) ≡ found number n ys) [
      | true ↦ λ k. let z : ◌≡◌ {A = ℕ} 0 1 = cc in absurd (omega arith)
      | false ↦ λ k. found_later number n xs ys k
    ] h

pub found_none : {X : Type 0} (number : X → ℕ) (n : ℕ) (xs ys : List X) → found number n (xs ++ ys) ≡ None → found number n xs ≡ None
found_none number n [] ys h = refl
found_none number n (y ∷ xs) ys h =
    elim (eqb (number y) n) as (λ v. cond v (Some y) (found number n (xs ++ ys)) ≡ None → cond v (Some y) (found number n xs) ≡ None) [
      | true ↦ λ k. k
      | false ↦ λ k. found_none number n xs ys k
    ] h

-- what holds of every element holds of the one that is found, and its number is the one asked for
pub found_has : {X : Type 0} (number : X → ℕ) (P : X → Type 0) (n : ℕ) (xs : List X) (d : X) → is_some (found number n xs) ≡ true → All P xs → P (unwrap_or (found number n xs) d) × (number (unwrap_or (found number n xs) d) ≡ n)
found_has number P n [] d h a = let z : ◌≡◌ {A = ℕ} 0 1 = cc in absurd (omega arith)
found_has number P n (x ∷ xs) d h a =
    elim (cases_Bool (eqb (number x) n)) [
      | inl e ↦ simp e (a.0, eqb-true (number x) n e)
      | inr e ↦ simp e (found_has number P n xs d (simp e at h) a.1)
    ]

-- ---- sums

pub sum_kept : {X : Type 0} (f : X → ℕ) (p : X → Bool) (xs : List X) → sum_by f (filter p xs) ≤ sum_by f xs
sum_kept f p xs = omega (arith, sum_by-filter_both p (λ x. not (p x)) (λ _. refl) f xs)

pub sum_same : {X : Type 0} (f g : X → ℕ) → ((x : X) → f x ≡ g x) → (xs : List X) → sum_by f xs ≡ sum_by g xs
sum_same f g h [] = refl
sum_same f g h (x ∷ xs) = omega (arith, sum_by-cons f x xs, sum_by-cons g x xs, h x, sum_same f g h xs)

pub sum_zero : {X : Type 0} (xs : List X) → sum_by (λ (x : X). 0) xs ≡ 0
sum_zero [] = refl
sum_zero (x ∷ xs) = omega (arith, sum_by-cons (λ x. 0) x xs, sum_zero xs)

-- no element is worth more after a change than before
abbrev pub Falls : {X : Type 0} → (X → ℕ) → (X → X) → List X → Type 0
Falls f h xs = All (λ x. f (h x) ≤ f x) xs

sum_fallen : {X : Type 0} (f : X → ℕ) (h : X → X) (xs : List X) → Falls f h xs → sum_by f (map h xs) ≤ sum_by f xs
sum_fallen f h [] k = omega arith
sum_fallen f h (x ∷ xs) k = omega (arith, sum_by-cons f x xs, sum_by-cons f (h x) (map h xs), k.0, sum_fallen f h xs k.1)

-- then the sum falls at least by what the element of one number does
sum-lowered : {X : Type 0} (number f : X → ℕ) (n : ℕ) (h : X → X) (xs : List X) (d : X) → Falls f h xs → is_some (found number n xs) ≡ true →
    sum_by f (map h xs) + f (unwrap_or (found number n xs) d) ≤ sum_by f xs + f (h (unwrap_or (found number n xs) d))
sum-lowered number f n h [] d k e = let z : ◌≡◌ {A = ℕ} 0 1 = cc in absurd (omega arith)
sum-lowered number f n h (x ∷ xs) d k s =
    elim (cases_Bool (eqb (number x) n)) [
      | inl e ↦ simp e (omega (arith, sum_by-cons f x xs, sum_by-cons f (h x) (map h xs), sum_fallen f h xs k.1))
      | inr e ↦ simp e (omega (arith, sum_by-cons f x xs, sum_by-cons f (h x) (map h xs), k.0, sum-lowered number f n h xs d k.1 (simp e at s)))
    ]

-- and at least by what the elements of two numbers do
pub sum_lowered_two : {X : Type 0} (number f : X → ℕ) (n m : ℕ) (h : X → X) (xs : List X) (d : X) → (n ≡ m → ⊥) → Falls f h xs → is_some (found number n xs) ≡ true → is_some (found number m xs) ≡ true →
    sum_by f (map h xs) + (f (unwrap_or (found number n xs) d) + f (unwrap_or (found number m xs) d)) ≤ sum_by f xs + (f (h (unwrap_or (found number n xs) d)) + f (h (unwrap_or (found number m xs) d)))
sum_lowered_two number f n m h [] d apart k s t = let z : ◌≡◌ {A = ℕ} 0 1 = cc in absurd (omega arith)
sum_lowered_two number f n m h (x ∷ xs) d apart k s t =
    let here = sum_by-cons f x xs in
    let there = sum_by-cons f (h x) (map h xs) in
    elim (cases_Bool (eqb (number x) n)) [
      | inl e ↦ elim (cases_Bool (eqb (number x) m)) [
        | inl g ↦ absurd (apart (sym (eqb-true (number x) n e) ∙ eqb-true (number x) m g))
        | inr g ↦ simp (e, g) (omega (arith, here, there, sum-lowered number f m h xs d k.1 (simp g at t)))
      ]
      | inr e ↦ elim (cases_Bool (eqb (number x) m)) [
        | inl g ↦ simp (e, g) (omega (arith, here, there, sum-lowered number f n h xs d k.1 (simp e at s)))
        | inr g ↦ simp (e, g) (omega (arith, here, there, k.0, sum_lowered_two number f n m h xs d apart k.1 (simp e at s) (simp g at t)))
      ]
    ]

-- ---- lists whose numbers are all different

abbrev pub Distinct : {X : Type 0} → (X → ℕ) → List X → Type 0
Distinct number [] = Unit {0}
Distinct number (x ∷ xs) = All (λ y. number y ≡ number x → ⊥) xs × Distinct number xs

pub distinct_push : {X : Type 0} (number : X → ℕ) (xs : List X) (x : X) → Distinct number xs → All (λ y. number y ≡ number x → ⊥) xs → Distinct number (xs ++ x ∷ [])
distinct_push number [] x d a = (tt, tt)
distinct_push number (y ∷ xs) x d a = (All-push (λ z. number z ≡ number y → ⊥) xs x d.0 (λ e. a.0 (sym e)), distinct_push number xs x d.1 a.1)

pub distinct_kept : {X : Type 0} (number : X → ℕ) (p : X → Bool) (xs : List X) → Distinct number xs → Distinct number (filter p xs)
distinct_kept number p [] d = tt
distinct_kept number p (x ∷ xs) d =
    elim (cases_Bool (p x)) [
      | inl e ↦ rw e (all_kept_by p (λ y. number y ≡ number x → ⊥) xs d.0, distinct_kept number p xs d.1)
      | inr e ↦ rw e (distinct_kept number p xs d.1)
    ]

pub distinct_map : {X : Type 0} (number : X → ℕ) (f : X → X) → ((x : X) → number (f x) ≡ number x) → (xs : List X) → Distinct number xs → Distinct number (map f xs)
distinct_map number f h [] d = tt
distinct_map number f h (x ∷ xs) d = (
  All-map (λ y. number y ≡ number (f x) → ⊥) f xs (All-weaker (λ y. number y ≡ number x → ⊥) (λ y. number (f y) ≡ number (f x) → ⊥) (λ y n e. n (sym (h y) ∙ e ∙ h x)) xs d.0),
  distinct_map number f h xs d.1,
)

-- the list without the element of a number, and with that element changed
abbrev pub without : {X : Type 0} → (X → ℕ) → ℕ → List X → List X
without number n xs = filter (λ x. not (eqb (number x) n)) xs

abbrev pub changed : {X : Type 0} → (X → ℕ) → ℕ → (X → X) → List X → List X
changed number n c xs = map (λ x. cond (eqb (number x) n) (c x) x) xs

kept_all : {X : Type 0} (number : X → ℕ) (n : ℕ) (xs : List X) → All (λ y. number y ≡ n → ⊥) xs → without number n xs ≡ xs
kept_all number n [] a = refl
kept_all number n (x ∷ xs) a = rw (ne_eqb (number x) n a.0, kept_all number n xs a.1) refl

changed_none : {X : Type 0} (number : X → ℕ) (n : ℕ) (c : X → X) (xs : List X) → All (λ y. number y ≡ n → ⊥) xs → changed number n c xs ≡ xs
changed_none number n c [] a = refl
changed_none number n c (x ∷ xs) a = rw (ne_eqb (number x) n a.0, changed_none number n c xs a.1) refl

pub sum_without : {X : Type 0} (number f : X → ℕ) (n : ℕ) (xs : List X) (d : X) → Distinct number xs → is_some (found number n xs) ≡ true →
    sum_by f (without number n xs) + f (unwrap_or (found number n xs) d) ≡ sum_by f xs
sum_without number f n [] d k h = let z : ◌≡◌ {A = ℕ} 0 1 = cc in absurd (omega arith)
sum_without number f n (x ∷ xs) d k h =
    elim (cases_Bool (eqb (number x) n)) [
      | inl e ↦ let s : number x ≡ n = eqb-true (number x) n e in
          let q : without number n xs ≡ xs = kept_all number n xs (subst (λ i. All (λ y. number y ≡ i → ⊥) xs) s k.0) in
          rw (e, q) (omega (arith, sum_by-cons f x xs))
      | inr e ↦ let i = sum_without number f n xs d k.1 (simp e at h) in
          simp e (omega (arith, sum_by-cons f x xs, sum_by-cons f x (without number n xs), i))
    ]

pub sum-changed : {X : Type 0} (number f : X → ℕ) (n : ℕ) (c : X → X) (xs : List X) (d : X) → Distinct number xs → is_some (found number n xs) ≡ true →
    sum_by f (changed number n c xs) + f (unwrap_or (found number n xs) d) ≡ sum_by f xs + f (c (unwrap_or (found number n xs) d))
sum-changed number f n c [] d k h = let z : ◌≡◌ {A = ℕ} 0 1 = cc in absurd (omega arith)
sum-changed number f n c (x ∷ xs) d k h =
    elim (cases_Bool (eqb (number x) n)) [
      | inl e ↦ let s : number x ≡ n = eqb-true (number x) n e in
          let q : changed number n c xs ≡ xs = changed_none number n c xs (subst (λ i. All (λ y. number y ≡ i → ⊥) xs) s k.0) in
          simp (e, q) (omega (arith, sum_by-cons f x xs, sum_by-cons f (c x) xs))
      | inr e ↦ let i = sum-changed number f n c xs d k.1 (simp e at h) in
          simp e (omega (arith, sum_by-cons f x xs, sum_by-cons f x (changed number n c xs), i))
    ]
