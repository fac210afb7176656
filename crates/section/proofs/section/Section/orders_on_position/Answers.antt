use Rattle.std.proofs.Common.{◌≡◌, ◌==◌, filter, refl, rules, ap, ◌∙◌}
use Rattle.std.specs.List.{sum_by}
use Rattle.std.proofs.lemmas.Iterator.{YieldsList-from_map, YieldsList-from_slice}
use Rattle.std.proofs.lemmas.Iterator.Adapters.{at_most_from_Filter}
use Rattle.std.proofs.lemmas.Iterator.Consumers.{YieldsList-from_filter, sum_by_from_yields_List}
use Rattle.std.specs.Iterator.Adapters.{filter_callee}
use Rattle.rules.specs.declared.orders.LiveOrder.{LiveOrder}
use Rattle.rules.specs.Holds.{order_money}
use Rattle.rules.specs.Limits.{order_on_position, row_of}
use Rattle.section.specs.Views.{section_under}
use Rattle.section.proofs.Holding.{few_items, held_bound, holds_fit, sum_by-filter}
use Rattle.section.proofs.section.Section.orders_on_position.Goals as goal

pub sum-requires-clause-fits : goal.sum-requires-clause-fits
sum-requires-clause-fits g c = holds_fit _ _ (at_most_from_Filter _ (few_items c.deref.result.now (cc) (search rules))) c.map.ensures.closure (λ x r q k. search rules)

pub returns-clause-bound : goal.returns-clause-bound
returns-clause-bound g c = held_bound _ _ (at_most_from_Filter _ (few_items c.deref.result.now (cc) (search rules))) c.map.ensures.closure (λ x r q k. search rules) c.sum.result c.sum.ensures.runs

pub returns-clause-value : goal.returns-clause-value
returns-clause-value g c =
    let d = c.args.self.now in
    let m = c.args.member in
    let charge = g.R.ChargeRule.charge c.args.rule.now in
    let its : LiveOrder → _ = λ o. o.order.member == m in
    let hold : LiveOrder → _ = λ o. order_money charge (row_of d.rows.items o.order.instrument) o in
    let orders = d.orders.items.items in
    let summed : c.sum.result ≡ sum_by hold (filter its orders) =
    sum_by_from_yields_List hold (filter its orders) c.map.result c.sum.result c.sum.ensures.ran (YieldsList-from_map _ hold (YieldsList-from_filter _ its (YieldsList-from_slice orders (cc)) (ap filter_callee c.map.ensures.source ∙ c.filter.ensures.closure) (λ x b q k. search rules)) c.map.ensures.closure (λ x r q k. search rules)) in
    summed ∙ sum_by-filter its hold (order_on_position (section_under g.R.ChargeRule d c.args.rule.now) m) (λ o. refl) orders
