use Rattle.std.proofs.Common.{ap, arith}
use Rattle.section.specs.Fits.{fit_contract}
use Rattle.section.proofs.Fitting.{fit_push}
use Rattle.section.proofs.Rising.{rising_push}
use Rattle.section.proofs.section.Section.execute.Goals as goal

pub invariant_of-self-clause-priced : goal.invariant_of-self-clause-priced
invariant_of-self-clause-priced g c =
    let d = c.fill.new.self in
    fit_push fit_contract d.contracts.items.items _ c.in_ok-contract.contract c.push.ensures.items c.in_ok-contract.ensures.fit d.priced

pub invariant_of-self-clause-contracts_rise : goal.invariant_of-self-clause-contracts_rise
invariant_of-self-clause-contracts_rise g c =
    let d = c.fill.new.self in
    let made = c.in_ok-contract.ensures in
    rising_push (λ k. k.trade.contract) d.contracts.items.items _ d.contracts.last _ c.in_ok-contract.contract c.push.ensures.items c.push.ensures.last (omega (arith, ap (λ v. v.last) c.fill.ensures.contracts, ap (λ t. t.contract) made.trade, made.number)) d.contracts_rise
