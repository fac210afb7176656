use Rattle.std.proofs.Common.{sym, subst, rules}
use Rattle.std.proofs.lemmas.List.Sorted.{answers_always}
use Rattle.section.specs.Numbers.{IndexOf}
use Rattle.section.proofs.Rising.{searched}
use Rattle.section.proofs.live.Live.index_of.Goals as goal

pub returns : goal.returns
returns g c =
    let v = c.args.self.now in
    let n = c.args.number in
    let number = g.T.Numbered.number in
    let found = c.binary_search_by_key.ensures in
    subst (λ o. IndexOf number n v.items.items o) (sym c.ok.ensures.value) (searched number v.items.items v.last n c.requires c.binary_search_by_key.result c.deref.result.now c.deref.ensures.value found.bound (found.position number (answers_always _ _ _ (λ f a r q k. search rules))))
