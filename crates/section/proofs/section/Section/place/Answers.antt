use Rattle.std.proofs.Common.{ap, ◌∙◌, arith}
use Rattle.rules.specs.declared.orders.LiveOrder.{LiveOrder}
use Rattle.section.specs.Fits.{fit_order}
use Rattle.section.proofs.Fitting.{fit_push}
use Rattle.section.proofs.Rising.{rising_push}
use Rattle.section.proofs.section.Section.place.Goals as goal

pub invariant_of-self-clause-sized : goal.invariant_of-self-clause-sized
invariant_of-self-clause-sized g c =
    let d = c.args.self.now in
    fit_push fit_order d.orders.items.items _ c.unfilled.result c.push.ensures.items (ap fit_order c.unfilled.ensures ∙ c.in_ok-hold.ensures.fit) d.sized

pub invariant_of-self-clause-orders_rise : goal.invariant_of-self-clause-orders_rise
invariant_of-self-clause-orders_rise g c =
    let d = c.args.self.now in
    let number : LiveOrder → _ = λ o. o.order.number in
    rising_push number d.orders.items.items _ d.orders.last _ c.unfilled.result c.push.ensures.items c.push.ensures.last (omega (arith, ap number c.unfilled.ensures, c.in_ok-hold.ensures.number)) d.orders_rise
