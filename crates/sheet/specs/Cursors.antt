-- What the cursors of a sheet and of a line still have before them. Assumes nothing.
use Rattle.std.specs.Prelude.{◌≡◌, ℕ, ◌+◌, min, List, Option, Result}
use Rattle.sheet.specs.declared.feeds.Lines.{Lines}
use Rattle.sheet.specs.declared.cursor.Fields.{Fields}
use Rattle.sheet.specs.declared.faults.LineFault.{LineFault}
use Rattle.sheet.specs.Forms.{ReadsAt}
use Rattle.sheet.specs.Pieces.{parts_after, first_of, others_of}
use Rattle.sheet.specs.Sheets.{lines_of}

-- the lines that a cursor of lines has before it
abbrev pub lines_left : Lines → List (List ℕ)
lines_left s = lines_of s.left.now

-- the parts that a cursor of fields has before it, and the place of the first
abbrev pub parts_left : Fields → List (List ℕ)
parts_left f = parts_after f.left

abbrev pub place_of : Fields → ℕ
place_of f = f.place

-- the place after a place; places stop at 255
abbrev pub next_place : ℕ → ℕ
next_place place = min (place + 1) 255

-- the first field is cut off, and r is the value of its text, or else the fault at its place
pub record Takes {X : Type 0} (value_of : List ℕ → Option X) (before : Fields) (r : Result X LineFault) (after : Fields) : Type 0 where
  pub value : ReadsAt value_of (first_of (parts_left before)) (place_of before) r
  pub left : parts_left after ≡ others_of (parts_left before)
  pub place : place_of after ≡ next_place (place_of before)
