use Rattle.std.proofs.Common.{◌≡◌, take, vec_items}
use Rattle.rules.specs.Terms.{in_force}
use Rattle.section.specs.Fits.{fit_row}
use Rattle.std.specs.List.{AllPass}
use Rattle.section.proofs.opening.rows_in_force.Given as goal

abbrev pub invariant-loop-row : goal.invariant-loop-row
invariant-loop-row l = (vec_items l.listed ≡ in_force l.top (take l.row-index l.rows)) × AllPass fit_row (vec_items l.listed)
