-- Room for the lines of a report that are still to come.
use Rattle.std.proofs.Common.{◌≡◌, ℕ, ◌+◌, ◌-◌, ◌<◌, List, [], ◌∷◌, length, ap, subst, arith}
use Rattle.report.specs.declared.writing.Report.{Report}
use Rattle.report.specs.Runs.{HasRoom}

module _ (r : Report) where
  pub room_next : (line : List ℕ) (left left' : List (List ℕ)) → left ≡ line ∷ left' → HasRoom r (length left + 64) → HasRoom r (length left' + 64 + 1)
  room_next line left left' e h = let longer = ap length e in subst (λ n. HasRoom r n) (omega arith) h

  pub room_at_end : (left : List (List ℕ)) → left ≡ [] → HasRoom r (length left + 64) → HasRoom r 64
  room_at_end left e h = subst (λ ls. HasRoom r (length {A = List ℕ} ls + 64)) e h

  pub room_less : (n : ℕ) → HasRoom r (n + 1) → HasRoom r n
  room_less n h = omega arith

  pub room_of_member : (k : ℕ) → k < 64 → HasRoom r (64 - k) → HasRoom r (64 - (k + 1) + 1)
  room_of_member k lt h = subst (λ n. HasRoom r n) (omega arith) h
