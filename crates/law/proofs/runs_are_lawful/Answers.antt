use Rattle.law.proofs.Whole.{lawful}
use Rattle.law.proofs.runs_are_lawful.Goals as goal

pub returns : goal.returns
returns c = lawful
