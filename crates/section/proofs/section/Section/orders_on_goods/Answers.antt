use Rattle.std.proofs.Common.{rules}
use Rattle.section.proofs.Holding.{few_items, held_bound, holds_fit}
use Rattle.section.proofs.section.Section.orders_on_goods.Goals as goal

pub sum-requires-clause-fits : goal.sum-requires-clause-fits
sum-requires-clause-fits c = holds_fit _ _ (few_items c.deref.result.now (cc) (search rules)) c.map.ensures.closure (λ x r q k. search rules)

pub returns-clause-bound : goal.returns-clause-bound
returns-clause-bound c = held_bound _ _ (few_items c.deref.result.now (cc) (search rules)) c.map.ensures.closure (λ x r q k. search rules) c.sum.result c.sum.ensures.runs
