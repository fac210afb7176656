-- An event of a found contract, as the ledger has it.
use Rattle.std.proofs.Common.{◌≡◌, ℕ, not, ◌∷◌, is_some, Some, Option, Result, unwrap_or, sym, subst}
use Rattle.rules.specs.declared.contracts.Contract.{Contract}
use Rattle.rules.specs.declared.contracts.Event.{Event}
use Rattle.rules.specs.declared.refusals.Refusal.{Refusal}
use Rattle.rules.specs.declared.refusals.Refusal.TheVariants.{ContractNotLive}
use Rattle.rules.specs.Checks.{event_checks}
use Rattle.rules.specs.Limits.{Ledger, found_contract, free_clearing, no_contract, row_at}
use Rattle.rules.specs.Rulings.{Checked}
use Rattle.section.specs.declared.settlement.Settlement.{Settlement}
use Rattle.section.specs.Settling.{EffectOn, Settles}

module _ (b : Ledger) (n : ℕ) (e : Event) (r : Result Settlement Refusal) where
  -- what it comes to where the search for the contract gave this
  abbrev pub ByFound : Option Contract → Type 0
  ByFound o =
      let k = unwrap_or o no_contract in
      Checked ((not (is_some o), ContractNotLive) ∷ event_checks (row_at b k.instrument) b.section.day (free_clearing b k.buyer) k e) (λ t. (t.number ≡ n) × EffectOn b k e t.effect) r

  pub by_found : (k : Contract) → found_contract n b.section.contracts ≡ Some k → ByFound (Some k) → Settles b n e r
  by_found k found h = subst ByFound (sym found) h
