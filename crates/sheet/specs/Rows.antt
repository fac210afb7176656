-- Lines whose first field is INS. Assumes nothing.
use Rattle.std.specs.Prelude.{◌≡◌, ℕ, true, false, List, [], ◌∷◌, Result}
use Rattle.rules.specs.declared.rows.Row.{Row}
use Rattle.sheet.specs.declared.faults.LineFault.{LineFault}
use Rattle.sheet.specs.Lines.{read_line, row_line}
use Rattle.sheet.specs.Verbs.{names_row}

-- no line is left, or the first of them has another first field
abbrev pub NoRow : List (List ℕ) → Type 0
NoRow [] = Unit {0}
NoRow (bs ∷ lines) = names_row bs ≡ false

-- the first line is taken: its first field is INS, and r is what it reads as
pub record TakesRow (before : List (List ℕ)) (r : Result Row LineFault) (after : List (List ℕ)) : Type 0 where
  pub line : List ℕ
  pub taken : before ≡ line ∷ after
  pub named : names_row line ≡ true
  pub value : read_line line ≡ row_line r
