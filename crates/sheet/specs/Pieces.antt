-- The pieces of a text between its marks. Assumes nothing.
use Rattle.std.specs.Prelude.{ℕ, Bool, true, cond, not, ◌&&◌, List, [], ◌∷◌, ◌++◌, drop, Some, None, Option, ◌==◌, slice_index_or}
use Rattle.std.specs.Borrow.{Bor}

-- no byte of the text is the mark m
abbrev pub lacks : ℕ → List ℕ → Bool
lacks m [] = true
lacks m (b ∷ bs) = not (b == m) && lacks m bs

-- p is put before the first piece
abbrev pub fronted : List ℕ → List (List ℕ) → List (List ℕ)
fronted p [] = p ∷ []
fronted p (q ∷ qs) = (p ++ q) ∷ qs

-- the pieces between the marks m, one at least
unfoldable pub pieces : ℕ → List ℕ → List (List ℕ)
pieces m [] = [] ∷ []
pieces m (b ∷ bs) = cond (b == m) ([] ∷ pieces m bs) (fronted (b ∷ []) (pieces m bs))

-- the pieces of what follows a mark, where one came
abbrev pub pieces_after : ℕ → Option (Bor (List ℕ)) → List (List ℕ)
pieces_after m None = []
pieces_after m (Some t) = pieces m t.now

-- the parts of a line, between its commas
abbrev pub parts : List ℕ → List (List ℕ)
parts bs = pieces 44 bs

abbrev pub parts_after : Option (Bor (List ℕ)) → List (List ℕ)
parts_after o = pieces_after 44 o

-- the first part, and those after it
abbrev pub first_of : List (List ℕ) → List ℕ
first_of ps = slice_index_or ps 0 []

abbrev pub others_of : List (List ℕ) → List (List ℕ)
others_of ps = drop 1 ps

-- parts with a comma between each two
abbrev pub with_commas : List (List ℕ) → List ℕ
with_commas [] = []
with_commas (p ∷ []) = p
with_commas (p ∷ q ∷ ps) = p ++ 44 ∷ with_commas (q ∷ ps)
