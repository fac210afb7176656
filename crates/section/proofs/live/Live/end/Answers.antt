use Rattle.std.proofs.Common.{sym, ap, ◌∙◌, arith}
use Rattle.section.proofs.Rising.{only_at, others_at}
use Rattle.section.proofs.live.Live.end.Goals as goal

pub returns-clause-items : goal.returns-clause-items
returns-clause-items g c =
    let v = c.args.self.now in
    let number = g.T.Numbered.number in
    let x = c.remove.result in
    let only = only_at number v.items.items v.last (number x) c.requires.rising c.args.at x (omega (arith, c.requires.inside, v.items.ok.0)) (ap number (sym c.remove.ensures.value)) in
    c.remove.ensures.items ∙ sym (others_at number (number x) v.items.items c.args.at x only)
