use Rattle.std.proofs.Common.{◌≡◌, length, get_or, arith, ◌∙◌, ltb-false, ltb-true}
use Rattle.sheet.proofs.Numbers.{no_numeral, mixed, reads, sofar, one_more}
use Rattle.std.proofs.lemmas.Bool.Decides.{nat_tests}
use Rattle.sheet.proofs.numerals.number.Goals as goal
use Rattle.sheet.proofs.numerals.number.Goals.{in_default-via-then-text-lt2, in_default-via-else-text-lt2+in_default-1}

pub overflow_mul-n : goal.overflow_mul-n
overflow_mul-n c = omega (arith, sofar c.args.text.now c.loop-b.b-index (omega arith) c.loop-b.invariant.0)

pub overflow_add-n : goal.overflow_add-n
overflow_add-n c = omega (arith, sofar c.args.text.now c.loop-b.b-index (omega arith) c.loop-b.invariant.0, c.in_ok-to_digit-in_default-2.ensures.value)

pub loop-b-preserved : goal.loop-b-preserved
loop-b-preserved c =
    let d = rw c.from.ensures at c.in_ok-to_digit-in_default-2.ensures.value in
    one_more c.args.text.now c.loop-b.b-index c.loop-b.n c.from-in-loop-b.result (omega arith) d.0 (c.from-in-loop-b.ensures ∙ d.1) c.loop-b.invariant.0 c.loop-b.invariant.1

pub returns-in_err-to_digit-in_default-2 : goal.returns-in_err-to_digit-in_default-2
returns-in_err-to_digit-in_default-2 c = rw c.from_residual.ensures (no_numeral _ (mixed c.args.text.now c.loop-b.b-index (omega arith) (λ r. omega (arith, c.in_err-to_digit-in_default-2.ensures.cases))))

pub returns-in_default : goal.returns-in_default
returns-in_default c = no_numeral _ (grind (arith, nat_tests))

pub returns-in-empty : goal.returns-in-empty
returns-in-empty c = no_numeral _ (grind (arith, nat_tests))

pub returns-in-empty-2 : goal.returns-in-empty-2
returns-in-empty-2 c = no_numeral _ (grind (arith, nat_tests))

plain : (c : goal.After-loop-b) → get_or c.args.text.now 0 0 ≡ 48 → length c.args.text.now ≡ 1
plain c z = elim c.in_default.branch [ in_default-via-then-text-lt2 w ↦ omega (arith, ltb-true, ltb-false) | in_default-via-else-text-lt2+in_default-1 w ↦ omega (arith, ltb-true, ltb-false) ]

pub returns-after-loop-b : goal.returns-after-loop-b
returns-after-loop-b c = reads c.args.text.now c.loop-b.b-index c.loop-b.n (omega arith) c.loop-b.invariant.0 c.loop-b.invariant.1 (omega (arith, ltb-true, ltb-false)) (omega arith) (plain c)
