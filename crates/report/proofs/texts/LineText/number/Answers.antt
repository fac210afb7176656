use Rattle.std.proofs.Common.{◌≤◌, length, decimal, IsAscii, sym, subst, arith, rules}
use Rattle.std.proofs.lemmas.Fmt.{IsAscii-decimal, decimal_nonempty, length-decimal-le}
use Rattle.std.proofs.lemmas.Str.{IsAscii-append}
use Rattle.report.proofs.texts.LineText.number.Goals as goal

pub write_digits-self-requires : goal.write_digits-self-requires
write_digits-self-requires c = search (rules, length-decimal-le 20)

pub invariant_of-self : goal.invariant_of-self
invariant_of-self c =
    let w = c.write_digits-self in
    record {
      within = omega (arith, w.ensures.start, c.args.self.now.within);
      ascii = subst IsAscii (sym w.ensures.written) (IsAscii-append _ _ (IsAscii-decimal c.args.number c.ranges.number.fits) c.args.self.now.ascii);
    }

pub returns-clause-start : goal.returns-clause-start
returns-clause-start c =
    let long : length (decimal c.args.number) ≤ 20 = search (rules, length-decimal-le 20) in
    omega (arith, long, decimal_nonempty c.args.number c.ranges.number.fits, c.write_digits-self.ensures.start)
