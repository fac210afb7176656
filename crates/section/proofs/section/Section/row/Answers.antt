use Rattle.std.proofs.Common.{◌<◌, length, Some, ap, sym, ◌∙◌, arith}
use Rattle.std.proofs.lemmas.List.{get_or_default}
use Rattle.section.proofs.Rising.{distinct_found}
use Rattle.section.proofs.section.Section.row.Goals as goal

pub returns-then-index-instrument-clause-value : goal.returns-then-index-instrument-clause-value
returns-then-index-instrument-clause-value c =
    let rows = c.args.self.now.rows in
    let n = c.args.instrument in
    let tried = c.index.result.now in
    let again = c.index-then-index-instrument in
    let inside : n < length rows.items = omega (arith, c.if-at-len.true, c.len.ensures, rows.ok.0) in
    let has = ap (λ r. r.number) (sym c.index.ensures) ∙ c.if-index-instrument.true in
    let same = get_or_default rows.items n again.result.now tried inside in
    ap Some (again.ensures ∙ same) ∙ sym (distinct_found (λ r. r.number) n rows.items c.args.self.now.distinct n tried inside has)
