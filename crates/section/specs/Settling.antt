-- What an event of a contract comes to before the keepers are asked. Assumes nothing.
use Rattle.std.specs.Prelude.{◌≡◌, ℕ, Result}
use Rattle.std.specs.Option.{option_map}
use Rattle.keeper.specs.declared.entries.Entry.{Entry}
use Rattle.keeper.specs.declared.entries.Entry.TheVariants as entry
use Rattle.charge.specs.Charges.{Charge}
use Rattle.rules.specs.declared.rows.Row.{Row}
use Rattle.rules.specs.declared.contracts.Contract.{Contract}
use Rattle.rules.specs.declared.contracts.Event.{Event}
use Rattle.rules.specs.declared.refusals.Refusal.{Refusal}
use Rattle.rules.specs.declared.calls.Call.TheVariants.{Settle}
use Rattle.rules.specs.Checks.{checks, event_checks}
use Rattle.rules.specs.Entries.{event_entries}
use Rattle.rules.specs.Limits.{Ledger, contract_at, free_clearing, position, row_at}
use Rattle.rules.specs.Rulings.{Checked}
use Rattle.rules.specs.Settling.{event_answer, event_state, failing}
use Rattle.section.specs.declared.settlement.Transfer.{Transfer}
use Rattle.section.specs.declared.settlement.Effect.{Effect}
use Rattle.section.specs.declared.settlement.Settlement.{Settlement}

-- a transfer as an entry
abbrev pub entry_of : Transfer → Entry
entry_of t = entry.Transfer t.giver t.receiver t.amount

-- the effect of a contract's event by the rules, of the amount in the failing side's position register
pub record IsEffect (charge : Charge) (r : Row) (amount : ℕ) (k : Contract) (e : Event) (f : Effect) : Type 0 where
  pub answers : f.answers ≡ event_answer charge r amount k e
  pub money : option_map entry_of f.money ≡ (event_entries charge r amount k e).money
  pub goods : option_map entry_of f.goods ≡ (event_entries charge r amount k e).goods
  pub state : f.state ≡ event_state r k e

-- the effect of an event on a contract of a ledger
abbrev pub EffectOn : Ledger → Contract → Event → Effect → Type 0
EffectOn b k e f = IsEffect b.charge (row_at b k.instrument) (position b (failing k)) k e f

-- an event of a contract of a ledger: its effect by the rules, or the first check that is met
abbrev pub HasEffect : Ledger → Contract → Event → Result Effect Refusal → Type 0
HasEffect b k e r = Checked (event_checks (row_at b k.instrument) b.section.day (free_clearing b k.buyer) k e) (EffectOn b k e) r

-- the same of the contract of a number
abbrev pub Settles : Ledger → ℕ → Event → Result Settlement Refusal → Type 0
Settles b n e r = Checked (checks b (Settle n e)) (λ t. (t.number ≡ n) × EffectOn b (contract_at b n) e t.effect) r
