-- The classes of field: word, number text, empty. Assumes nothing.
use Rattle.std.specs.Prelude.{ℕ, Bool, true, not, ◌&&◌, List, [], length, nat_le, slice_index}
use Rattle.std.specs.Char.{is_ascii_digit}
use Rattle.sheet.specs.declared.tokens.Field.{Field}
use Rattle.sheet.specs.declared.tokens.Field.TheVariants.{Word, Number, Empty}

abbrev pub field_text : Field → List ℕ
field_text (Word t) = t.now
field_text (Number t) = t.now
field_text Empty = []

-- a number text begins with a digit, and a word with something else
abbrev pub is_classified : Field → Bool
is_classified (Word t) = nat_le 1 (length t.now) && not (is_ascii_digit (slice_index t.now 0))
is_classified (Number t) = is_ascii_digit (slice_index t.now 0)
is_classified Empty = true
