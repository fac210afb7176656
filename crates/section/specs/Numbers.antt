-- Lists of what has numbers: when the numbers rise, and where one is. Assumes nothing.
use Rattle.std.specs.Prelude.{◌≡◌, ℕ, ◌<◌, ◌≤◌, Bool, not, List, length, None, Option, MatchOption, ◌==◌}
use Rattle.std.specs.List.{All, AllPairs, HoldsAt, slice_get}
use Rattle.rules.specs.Terms.{found}

-- the elements of every other number are kept
abbrev pub other : {X : Type 0} → (X → ℕ) → ℕ → X → Bool
other number n x = not (number x == n)

-- the numbers rise, and none is above the last
abbrev pub Rising : {X : Type 0} → (X → ℕ) → List X → ℕ → Type 0
Rising number xs last = AllPairs (λ x y. number x < number y) xs × All (λ x. number x ≤ last) xs

-- no two have one number
abbrev pub Distinct : {X : Type 0} → (X → ℕ) → List X → Type 0
Distinct number xs = AllPairs (λ x y. ¬ (number x ≡ number y)) xs

-- the first element of a number is the one at an index
pub record IsIndexOf {X : Type 0} (number : X → ℕ) (n : ℕ) (xs : List X) (at : ℕ) : Type 0 where
  pub inside : at < length xs
  pub has : HoldsAt (λ x. number x ≡ n) xs at
  pub first : found number n xs ≡ slice_get xs at

-- an index that was looked for by a number, or none where no element has it
abbrev pub IndexOf : {X : Type 0} → (X → ℕ) → ℕ → List X → Option ℕ → Type 0
IndexOf number n xs r = MatchOption r (found number n xs ≡ None) (IsIndexOf number n xs)
