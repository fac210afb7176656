use Rattle.std.proofs.Common.{◌<◌, length, sym, ap, ◌∙◌, arith}
use Rattle.std.proofs.lemmas.List.{get_or_default}
use Rattle.section.proofs.Rising.{at_index}
use Rattle.section.proofs.live.Live.index_near.Goals as goal

pub returns-then-number : goal.returns-then-number
returns-then-number g c =
    let v = c.args.self.now in
    let xs = v.items.items in
    let number = g.T.Numbered.number in
    let at = c.args.at in
    let x = c.index.result.now in
    let inside : at < length xs = omega (arith, c.if-at-len.true, c.len.ensures, v.items.ok.0) in
    at_index number xs v.last c.args.number c.requires at inside (λ d. ap number (get_or_default xs at d x inside ∙ sym c.index.ensures) ∙ sym c.number.ensures ∙ c.if-number.true)
