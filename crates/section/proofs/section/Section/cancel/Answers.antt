use Rattle.rules.specs.Orders.{other_order}
use Rattle.section.specs.Fits.{fit_order}
use Rattle.section.proofs.Fitting.{fit_kept}
use Rattle.section.proofs.Rising.{rising_kept}
use Rattle.section.proofs.section.Section.cancel.Goals as goal

pub invariant_of-self-clause-sized : goal.invariant_of-self-clause-sized
invariant_of-self-clause-sized c =
    let d = c.args.self.now in
    fit_kept fit_order (other_order c.end-live.result.order.number) d.orders.items.items _ c.end-live.ensures.items d.sized

pub invariant_of-self-clause-orders_rise : goal.invariant_of-self-clause-orders_rise
invariant_of-self-clause-orders_rise c =
    let d = c.args.self.now in
    rising_kept (λ o. o.order.number) (other_order c.end-live.result.order.number) d.orders.items.items _ d.orders.last _ c.end-live.ensures.items c.end-live.ensures.last d.orders_rise
