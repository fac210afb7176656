use Rattle.std.proofs.Common.{rules}
use Rattle.sheet.proofs.LineEnds.{lines_some, no_line}
use Rattle.sheet.proofs.feeds.Lines.is_empty.Goals as goal

pub returns : goal.returns
returns c = search (rules, lines_some, no_line)
