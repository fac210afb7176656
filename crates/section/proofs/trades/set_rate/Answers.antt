use Rattle.rules.specs.declared.rows.Row.{Row}
use Rattle.section.proofs.Lists.{changed_hit, changed_miss}
use Rattle.section.proofs.trades.set_rate.Goals as goal
use Rattle.section.proofs.trades.set_rate.Goals.{then-row-instrument, else-row-instrument}

pub loop-row-preserved : goal.loop-row-preserved
loop-row-preserved c =
    let change : Row → Row = λ r. record r { rate = c.args.rate } in
    elim c.if-row-instrument.branch [
      | then-row-instrument w ↦ changed_hit (λ r. r.number) c.args.instrument change _ _ _ _ c.loop-row.auto.rows c.loop-row.invariant c.loop-row-test.true _ w.rows-is w.if-row-instrument.true
      | else-row-instrument w ↦ changed_miss (λ r. r.number) c.args.instrument change _ _ _ _ c.loop-row.auto.rows c.loop-row.invariant c.loop-row-test.true _ w.rows-is w.if-row-instrument.false
    ]
