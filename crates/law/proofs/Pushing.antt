-- What one more accepted call adds to what was moved, and to how often a contract ended.
use Rattle.std.proofs.Common.{◌≡◌, ℕ, ◌+◌, cond, List, [], ◌∷◌, ◌++◌, refl, append_assoc, append-nil, arith}
use Rattle.rules.specs.declared.rows.Row.{Row}
use Rattle.rules.specs.History.{Done, call_moves, moves, ends, endings}

pub moves_push : (rows : List Row) (past ds : List Done) (d : Done) → moves rows past (ds ++ d ∷ []) ≡ moves rows past ds ++ call_moves rows (past ++ ds) d.call d.first d.second ∷ []
moves_push rows past [] d = rw append-nil refl
moves_push rows past (x ∷ ds) d = rw (moves_push rows (past ++ x ∷ []) ds d, append_assoc) refl

pub endings_push : (rows : List Row) (past ds : List Done) (d : Done) (n : ℕ) → endings rows past (ds ++ d ∷ []) n ≡ endings rows past ds n + cond (ends rows (past ++ ds) d n) 1 0
endings_push rows past [] d n = rw append-nil (omega arith)
endings_push rows past (x ∷ ds) d n = rw (endings_push rows (past ++ x ∷ []) ds d n, append_assoc) (omega arith)
