use Rattle.std.proofs.Common.{◌≡◌, [], Some, Ok, Err, refl, ◌∙◌, arith}
use Rattle.std.proofs.lemmas.Option.{slice_get_read}
use Rattle.std.proofs.lemmas.Result.{err_from_is_err_and}
use Rattle.rules.specs.Limits.{Ledger, found_contract, session}
use Rattle.section.specs.declared.settlement.Settlement.{Settlement}
use Rattle.section.specs.Views.{ledger_of}
use Rattle.section.proofs.Settlements.{by_found}
use Rattle.section.proofs.section.Section.settle.Goals as goal

pub returns-in_err-effect : goal.returns-in_err-effect
returns-in_err-effect g c =
    let a = c.args in
    let b : Ledger = ledger_of session g.R.ChargeRule a.self.now a.rule.now (g.M.Registers.meaning a.money.now).amounts [] in
    let contracts = a.self.now.contracts.items in
    let at = rw c.in_ok-at.ensures.ok_part at c.index_of.ensures in
    let k = c.index.result.now in
    let there : found_contract a.contract contracts.items ≡ Some k = at.first ∙ slice_get_read contracts.items contracts.len c.in_ok-at.at k contracts.ok.0 (omega (arith, at.inside, contracts.ok.0)) c.index.ensures in
    let exit = err_from_is_err_and c.from_residual-in_err-effect.result c.from_residual-in_err-effect.ensures.1 in
    rw (exit.1, exit.2) (by_found b a.contract a.event (Err c.in_err-effect.field-0.0) k there c.in_err-effect.ensures)

pub returns : goal.returns
returns g c =
    let a = c.args in
    let b : Ledger = ledger_of session g.R.ChargeRule a.self.now a.rule.now (g.M.Registers.meaning a.money.now).amounts [] in
    let contracts = a.self.now.contracts.items in
    let at = rw c.in_ok-at.ensures.ok_part at c.index_of.ensures in
    let k = c.index.result.now in
    let there : found_contract a.contract contracts.items ≡ Some k = at.first ∙ slice_get_read contracts.items contracts.len c.in_ok-at.at k contracts.ok.0 (omega (arith, at.inside, contracts.ok.0)) c.index.ensures in
    let t : Settlement = record { number = a.contract; effect = c.in_ok-effect.effect; at = c.in_ok-at.at } in
    by_found b a.contract a.event (Ok t) k there (c.in_ok-effect.ensures.0, (refl, c.in_ok-effect.ensures.1))
