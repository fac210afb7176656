-- What is proved of every run of the ledger. Assumes nothing.
use Rattle.std.specs.Prelude.{List}
use Rattle.keeper.specs.declared.keepers.Registers as registers
use Rattle.charge.specs.declared.ChargeRule as rule
use Rattle.charge.specs.Charges.{Fair}
use Rattle.rules.specs.declared.rows.Row.{Row}
use Rattle.rules.specs.Runs.{Step, Run}
use Rattle.rules.specs.Law.{Start, start, opened, Lawful}

-- every run from a start keeps the law
abbrev pub KeepsLaw : Start → Type 0
KeepsLaw o = (steps : List Step) → Run (opened o) steps → Lawful o steps

-- so it is from every start whose charge for parts is no more than the charge for the whole
abbrev pub RunsAreLawful : Type 0
RunsAreLawful = (o : Start) → Fair o.charge → KeepsLaw o

-- and from two keepers and a rule, behind their interfaces, whatever the rows
abbrev pub LawfulFrom : {M G R : Type 0} → registers.Ghosts M → registers.Ghosts G → rule.Ghosts R → M → G → R → Type 0
LawfulFrom m g r money goods charges = (rows : List Row) → KeepsLaw (start m g r rows money goods charges)
