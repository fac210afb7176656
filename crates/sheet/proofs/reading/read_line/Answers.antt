use Rattle.std.proofs.Common.{Err, rules}
use Rattle.sheet.specs.declared.faults.LineFault.TheVariants.{LongLine}
use Rattle.sheet.proofs.Exact.{reads_exactly, reading}
use Rattle.sheet.proofs.reading.read_line.Goals as goal

pub returns-then-line-gt-MAX_LINE_BYTES-clause-exact : goal.returns-then-line-gt-MAX_LINE_BYTES-clause-exact
returns-then-line-gt-MAX_LINE_BYTES-clause-exact c = reads_exactly c.args.line.now (Err LongLine) (search rules)

pub returns-clause-reading : goal.returns-clause-reading
returns-clause-reading c = reading c.args.line.now _ (search rules)

pub returns-clause-exact : goal.returns-clause-exact
returns-clause-exact c = reads_exactly c.args.line.now _ (search rules)
