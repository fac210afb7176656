use Rattle.std.proofs.Common.{map, ap, ◌∙◌}
use Rattle.std.proofs.lemmas.List.{with_items_is}
use Rattle.rules.specs.Effects.{rerated}
use Rattle.section.specs.Fits.{fit_row}
use Rattle.section.proofs.Fitting.{fit_mapped, rerated_fit, written}
use Rattle.section.proofs.Rising.{distinct_mapped, rerated_number}
use Rattle.section.proofs.section.Section.rerate.Goals as goal

pub invariant_of-self-clause-listed : goal.invariant_of-self-clause-listed
invariant_of-self-clause-listed g c =
    let rows = c.args.self.now.rows in
    let to = rerated c.args.instrument c.args.rate in
    fit_mapped fit_row to (rerated_fit c.args.instrument c.args.rate) rows.items _ (written fit_row to rows _ _ c.deref_mut.ensures.value (c.set_rate.auto.rows ∙ c.deref_mut.ensures.len) c.set_rate.ensures) c.args.self.now.listed

pub invariant_of-self-clause-distinct : goal.invariant_of-self-clause-distinct
invariant_of-self-clause-distinct g c =
    let rows = c.args.self.now.rows in
    distinct_mapped (λ r. r.number) (rerated c.args.instrument c.args.rate) (rerated_number c.args.instrument c.args.rate) rows.items _ (with_items_is rows _ (c.set_rate.auto.rows ∙ c.deref_mut.ensures.len) ∙ c.set_rate.ensures ∙ ap (map (rerated c.args.instrument c.args.rate)) c.deref_mut.ensures.value) c.args.self.now.distinct
