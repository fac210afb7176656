-- The numbers that an accepted call answers. Assumes nothing.
use Rattle.std.specs.Prelude.{ℕ}
use Rattle.rules.specs.declared.requests.Answers.{Answers}

-- one number alone; the second is 0
abbrev pub one : ℕ → Answers
one x = record { first = x; second = 0 }

abbrev pub two : ℕ → ℕ → Answers
two x y = record { first = x; second = y }
