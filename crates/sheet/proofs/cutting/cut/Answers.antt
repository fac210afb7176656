use Rattle.std.proofs.Common.{arith, rules, ltb-false, ltb-true}
use Rattle.sheet.proofs.Cuts.{start, at_mark, past, at_end}
use Rattle.sheet.proofs.cutting.cut.Goals as goal

pub loop-left-init : goal.loop-left-init
loop-left-init c = start c.args.mark c.args.text.now

pub returns-then-first-mark : goal.returns-then-first-mark
returns-then-first-mark c = at_mark c.args.mark c.args.text.now c.loop-left.n c.loop-left.left.now c.loop-left.invariant (omega (arith, ltb-false)) (omega arith)

pub loop-left-preserved : goal.loop-left-preserved
loop-left-preserved c = past c.args.mark c.args.text.now c.loop-left.n c.loop-left.left.now c.loop-left.invariant (omega (arith, ltb-false)) (search rules)

pub returns : goal.returns
returns c = at_end c.args.mark c.args.text.now c.loop-left.n c.loop-left.left.now c.loop-left.invariant (omega (arith, ltb-true))
