use Rattle.std.proofs.Common.{◌≡◌, ℕ, List, get_or, set, map, sym, ap, rules, ◌∙◌}
use Rattle.rules.specs.Effects.{in_state, other_contract, with_contracts, with_state}
use Rattle.rules.specs.declared.contracts.Contract.{Contract}
use Rattle.rules.specs.declared.contracts.State.{State}
use Rattle.section.specs.declared.section.Section.{Section}
use Rattle.section.specs.Numbers.{IsIndexOf}
use Rattle.section.specs.Fits.{fit_contract, fit_next}
use Rattle.section.specs.Views.{section_of}
use Rattle.section.proofs.Fitting.{fit_kept, fit_mapped, in_state_fit}
use Rattle.section.proofs.Rising.{in_state_number, replaced_at, rising_kept, rising_mapped, settled_none}
use Rattle.section.proofs.section.Section.apply.Goals as goal

-- the contracts with one in its next state
moved : (d : Section) (n : ℕ) (s : State) (at : ℕ) (k : Contract) → IsIndexOf (λ k. k.trade.contract) n d.contracts.items.items at → k ≡ get_or d.contracts.items.items at k
    → (after : List Contract) → after ≡ set d.contracts.items.items at (with_state s k) → after ≡ map (in_state n s) d.contracts.items.items
moved d n s at k found is after now = replaced_at (λ k. k.trade.contract) d.contracts.items.items d.contracts.last n d.contracts_rise (with_state s) at k found is after now

pub invariant_of-self-clause-priced : goal.invariant_of-self-clause-priced
invariant_of-self-clause-priced c =
    let d = c.args.self.now in
    let n = c.args.settlement.number in
    let s = c.in-Some-state.state in
    let fit = sym (ap fit_next c.in-Some-state.is) ∙ c.args.settlement.effect.fit in
    fit_mapped fit_contract (in_state n s) (in_state_fit n s fit) d.contracts.items.items _ (moved d n s c.in-Some.at _ c.in-Some.ensures c.index-contract.ensures _ c.replace.ensures.items) d.priced

pub invariant_of-self-clause-contracts_rise : goal.invariant_of-self-clause-contracts_rise
invariant_of-self-clause-contracts_rise c =
    let d = c.args.self.now in
    let n = c.args.settlement.number in
    let s = c.in-Some-state.state in
    rising_mapped (λ k. k.trade.contract) (in_state n s) (in_state_number n s) d.contracts.items.items _ d.contracts.last _ (moved d n s c.in-Some.at _ c.in-Some.ensures c.index-contract.ensures _ c.replace.ensures.items) c.replace.ensures.last d.contracts_rise

pub invariant_of-self-in-None-clause-priced : goal.invariant_of-self-in-None-clause-priced
invariant_of-self-in-None-clause-priced c =
    let d = c.args.self.now in
    fit_kept fit_contract (other_contract c.end.result.trade.contract) d.contracts.items.items _ c.end.ensures.items d.priced

pub invariant_of-self-in-None-clause-contracts_rise : goal.invariant_of-self-in-None-clause-contracts_rise
invariant_of-self-in-None-clause-contracts_rise c =
    let d = c.args.self.now in
    rising_kept (λ k. k.trade.contract) (other_contract c.end.result.trade.contract) d.contracts.items.items _ d.contracts.last _ c.end.ensures.items c.end.ensures.last d.contracts_rise

pub returns-in_default : goal.returns-in_default
returns-in_default c =
    let d = c.args.self.now in
    ap (with_contracts (section_of d)) (sym (settled_none c.args.settlement.number c.args.settlement.effect.state d.contracts.items.items c.in_default.ensures))

pub returns-in-Some-state : goal.returns-in-Some-state
returns-in-Some-state c =
    let d = c.args.self.now in
    let now : c.replace.new.self.items.items ≡ map (in_state c.args.settlement.number c.in-Some-state.state) d.contracts.items.items = moved d c.args.settlement.number c.in-Some-state.state c.in-Some.at _ c.in-Some.ensures c.index-contract.ensures _ c.replace.ensures.items in
    search rules
