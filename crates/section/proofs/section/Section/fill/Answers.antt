use Rattle.std.proofs.Common.{◌≡◌, filter, map, refl, rules}
use Rattle.rules.specs.Orders.{has_rest, lowered_by}
use Rattle.section.specs.Fits.{fit_order}
use Rattle.section.proofs.Fitting.{fit_kept, fit_mapped, lowered_fit}
use Rattle.section.proofs.Lists.{changed_and_kept}
use Rattle.section.proofs.Rising.{lowered_number, rising_kept, rising_mapped}
use Rattle.section.proofs.section.Section.fill.Goals as goal

pub returns-clause-orders : goal.returns-clause-orders
returns-clause-orders c = changed_and_kept _ has_rest (lowered_by c.args.trade) _ (λ x b t y k. search rules) _ _ c.retain_mut.ensures.filtered

pub invariant_of-self : goal.invariant_of-self
invariant_of-self c =
    let d = c.args.self.now in
    let t = c.args.trade in
    let orders = d.orders.items.items in
    let filled : c.retain_mut.new.self.items ≡ filter has_rest (map (lowered_by t) orders) = changed_and_kept _ has_rest (lowered_by t) _ (λ x b s y k. search rules) _ _ c.retain_mut.ensures.filtered in
    let fit = fit_mapped fit_order (lowered_by t) (lowered_fit t) orders _ refl d.sized in
    let rise = rising_mapped (λ o. o.order.number) (lowered_by t) (lowered_number t) orders _ d.orders.last d.orders.last refl refl d.orders_rise in (
      (search rules, (search rules, tt)),
      (
        search rules,
        (
          search rules,
          (
            search rules,
            (
              fit_kept fit_order has_rest (map (lowered_by t) orders) c.retain_mut.new.self.items filled fit,
              (search rules, (rising_kept (λ o. o.order.number) has_rest (map (lowered_by t) orders) c.retain_mut.new.self.items d.orders.last d.orders.last filled refl rise, (search rules, tt))),
            ),
          ),
        ),
      ),
    )
