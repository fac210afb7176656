use Rattle.std.proofs.Common.{ℕ, ◌+◌, ◌-◌, arith, List, Option, length, take, drop}
use Rattle.std.proofs.Math.Seq.{take-add}
use Rattle.std.proofs.lemmas.Grind.{common_steps}
use Rattle.std.proofs.lemmas.List.{take_rest}
use Rattle.std.proofs.KnownBytes.{Appends-kept, Appends-trans}
use Rattle.std.specs.Io.KnownBytes.{Appends}
use Rattle.console.proofs.write_text.Goals as goal
use Rattle.console.proofs.write_text.Goals.{in-Ok, in-Err}

-- the first m of the rest, after the first n
more : (a b c : Option (List ℕ)) (n m : ℕ) (text : List ℕ) → Appends a b (take n text) → Appends b c (take m (take (length text - n) (drop n text))) → Appends a c (take (n + m) text)
more a b c n m text p q =
    let rest : Appends b c (take m (drop n text)) = rw take_rest at q in
    rw take-add (Appends-trans a b c _ _ p rest)

pub loop-preserved : goal.loop-preserved
loop-preserved g c =
    let (inside, written) = c.loop.invariant in
    elim c.match-write.branch [
      | in-Ok w ↦
          let grown = more _ _ _ c.loop.written w.in-Ok.n c.args.text.now written w.in-Ok.ensures.bytes in
          (grind (arith, common_steps, w.in-Ok.ensures.bound), rw w.written-is grown)
      | in-Err w ↦ rw w.written-is (inside, Appends-kept _ _ _ _ written w.in-Err.ensures.bytes)
    ]
