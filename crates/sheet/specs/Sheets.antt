-- The lines of a sheet. Assumes nothing.
use Rattle.std.specs.Prelude.{◌≡◌, ℕ, ◌<◌, true, List, [], ◌∷◌, ◌++◌, length}
use Rattle.sheet.specs.Pieces.{pieces, lacks}

-- an empty last piece is no line: the feed before it ended the last one
abbrev pub trimmed : List (List ℕ) → List (List ℕ)
trimmed [] = []
trimmed ([] ∷ []) = []
trimmed ((b ∷ p) ∷ []) = (b ∷ p) ∷ []
trimmed (p ∷ q ∷ ps) = p ∷ trimmed (q ∷ ps)

-- the lines of a sheet, without their feeds
unfoldable pub lines_of : List ℕ → List (List ℕ)
lines_of bs = trimmed (pieces 10 bs)

-- an empty sheet has no line; a feed ends a line, which may be empty; what follows the last feed is a line if it is not empty
pub record LinesLaw : Type 0 where
  pub empty : lines_of [] ≡ []
  pub ended : (l rest : List ℕ) → lacks 10 l ≡ true → lines_of (l ++ 10 ∷ rest) ≡ l ∷ lines_of rest
  pub open_ended : (l : List ℕ) → lacks 10 l ≡ true → 0 < length l → lines_of l ≡ l ∷ []
