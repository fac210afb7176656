use Rattle.std.proofs.Common.{take, sym, subst}
use Rattle.section.specs.Numbers.{Distinct}
use Rattle.section.proofs.Rising.{in_force_distinct}
use Rattle.section.proofs.opening.rows_in_force.Goals as goal

pub returns-clause-distinct : goal.returns-clause-distinct
returns-clause-distinct c = subst (λ xs. Distinct (λ r. r.number) xs) (sym c.loop-row.invariant.0) (in_force_distinct c.args.top (take c.loop-row.row-index c.args.rows.now))
