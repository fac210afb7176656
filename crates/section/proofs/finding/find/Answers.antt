use Rattle.std.proofs.Common.{◌≡◌, ◌==◌, ℕ, cond, List, [], ◌∷◌, Some, None, Option, Bor, refl, rules, ap, ◌∙◌}
use Rattle.std.specs.List.{find}
use Rattle.std.specs.Option.{option_copied, option_map}
use Rattle.std.proofs.lemmas.Iterator.{YieldsList-from_slice}
use Rattle.std.proofs.lemmas.Iterator.Search.{find_from_yields_List}
use Rattle.rules.specs.declared.rows.Row.{Row}
use Rattle.rules.specs.Terms.{found_row}
use Rattle.section.proofs.finding.find.Goals as goal

copied : {X : Type 0} (o : Option (Bor X)) → option_copied o ≡ option_map (λ y. y.now) o
copied None = refl
copied (Some y) = refl

same_find : (n : ℕ) (rows : List Row) → find (λ r. r.number == n) rows ≡ found_row n rows
same_find n [] = refl
same_find n (x ∷ xs) = ap (λ o. cond (x.number == n) (Some x) o) (same_find n xs)

pub returns-clause-value : goal.returns-clause-value
returns-clause-value c =
    let rows = c.args.rows.now in
    let its : Row → _ = λ r. r.number == c.args.number in
    c.copied.ensures ∙ copied c.find.result ∙ find_from_yields_List its _ _ c.find.result c.find.ensures.ran (YieldsList-from_slice rows (cc)) (λ x b q k. search rules) ∙ same_find c.args.number rows
