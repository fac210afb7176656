use Rattle.std.proofs.Common.{◌≡◌, ◌+◌, eqb, count_by, sym, ap, ◌∙◌, rules}
use Rattle.sheet.proofs.Cuts.{pieces_count}
use Rattle.sheet.proofs.cursor.count_parts.Goals as goal

pub returns : goal.returns
returns c =
    let e : c.count.result ≡ count_by (λ b. eqb b 44) c.args.text.now = search rules in
    ap (λ n. 1 + n) e ∙ sym (pieces_count 44 c.args.text.now)
