use Rattle.law.proofs.Lent.{journal_after}
use Rattle.law.proofs.journals_last.Goals as goal

pub returns : goal.returns
returns c = journal_after
