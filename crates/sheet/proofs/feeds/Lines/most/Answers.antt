use Rattle.std.proofs.Common.{◌≡◌, eqb, count_by, subst, arith}
use Rattle.std.proofs.lemmas.List.{take_all}
use Rattle.sheet.proofs.LineEnds.{lines_within}
use Rattle.sheet.proofs.feeds.Lines.most.Goals as goal

pub returns-clause-lines : goal.returns-clause-lines
returns-clause-lines c =
    let sheet = c.args.sheet.now in
    let all : c.loop-byte.feeds ≡ count_by (λ b. eqb b 10) sheet =
    subst (λ bs. c.loop-byte.feeds ≡ count_by (λ b. eqb b 10) bs) (take_all c.loop-byte.byte-index sheet c.loop-byte-test.false) c.loop-byte.invariant in
    omega (arith, all, lines_within sheet)
