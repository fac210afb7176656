use Rattle.std.proofs.Common.{◌≡◌, eqb, count_by, take}
use Rattle.sheet.proofs.feeds.Lines.most.Given as goal

abbrev pub invariant-loop-byte : goal.invariant-loop-byte
invariant-loop-byte l = l.feeds ≡ count_by (λ b. eqb b 10) (take l.byte-index l.sheet)
