use Rattle.std.proofs.Common.{◌≡◌, filter, length, refl, rules, ap, arith}
use Rattle.std.proofs.lemmas.Fn.{filter_same}
use Rattle.rules.specs.Answering.{one}
use Rattle.rules.specs.Effects.{on_day}
use Rattle.rules.specs.Orders.{ends_on, goes_on}
use Rattle.section.specs.Fits.{fit_order}
use Rattle.section.specs.Views.{section_of}
use Rattle.section.proofs.Fitting.{fit_kept}
use Rattle.section.proofs.Lists.{dropped_count}
use Rattle.section.proofs.Rising.{rising_kept}
use Rattle.section.proofs.section.Section.end_trading.Goals as goal

pub returns : goal.returns
returns c =
    let d = c.args.self.now in
    let kept : c.retain.new.self.items ≡ filter (goes_on d.day) d.orders.items.items = filter_same _ _ _ (λ x b f' k. search rules) _ _ c.retain.ensures.filtered in (
      refl,
      (
        ap one (omega (arith, ap length kept, c.len-before.ensures, c.len.ensures, d.orders.items.ok.0, c.retain.new.self.ok.0, dropped_count (ends_on d.day) d.orders.items.items)),
        ap (on_day (section_of d) d.day) kept,
      ),
    )

pub invariant_of-self : goal.invariant_of-self
invariant_of-self c =
    let d = c.args.self.now in
    let orders = d.orders.items.items in
    let kept : c.retain.new.self.items ≡ filter (goes_on d.day) orders = filter_same _ _ _ (λ x b f' k. search rules) _ _ c.retain.ensures.filtered in (
      (search rules, (search rules, tt)),
      (
        search rules,
        (
          search rules,
          (
            search rules,
            (
              fit_kept fit_order (goes_on d.day) orders c.retain.new.self.items kept d.sized,
              (search rules, (rising_kept (λ o. o.order.number) (goes_on d.day) orders c.retain.new.self.items d.orders.last d.orders.last kept refl d.orders_rise, (search rules, tt))),
            ),
          ),
        ),
      ),
    )
