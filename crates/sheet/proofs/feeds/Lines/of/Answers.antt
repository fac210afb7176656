use Rattle.sheet.proofs.LineEnds.{lines_few, lines_law}
use Rattle.sheet.proofs.feeds.Lines.of.Goals as goal

pub returns-clause-few : goal.returns-clause-few
returns-clause-few c = lines_few c.args.sheet.now

pub returns-clause-law : goal.returns-clause-law
returns-clause-law c = lines_law
