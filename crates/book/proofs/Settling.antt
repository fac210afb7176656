-- An event of a contract that the keepers refuse, and one that they take.
use Rattle.std.proofs.Common.{◌≡◌, ℕ, Some, Ok, IsErrAnd, Result, ap₂, ◌∙◌, sym}
use Rattle.std.proofs.lemmas.Result.{err_from_is_err_and}
use Rattle.std.specs.Option.{option_map}
use Rattle.keeper.specs.Meaning.{Meaning}
use Rattle.rules.specs.declared.contracts.Event.{Event}
use Rattle.rules.specs.declared.refusals.Refusal.{Refusal}
use Rattle.rules.specs.declared.requests.Answers.{Answers}
use Rattle.rules.specs.declared.calls.Call.TheVariants.{Settle}
use Rattle.rules.specs.Checks.{checks}
use Rattle.rules.specs.Entries.{Entries, no_entry}
use Rattle.rules.specs.Rulings.{keepers_say}
use Rattle.rules.specs.Runs.{Called, Snapshot, feed}
use Rattle.section.specs.declared.settlement.Settlement.{Settlement}
use Rattle.section.specs.Settling.{Settles, entry_of}
use Rattle.book.proofs.Calls.{allowed_ok}

-- a snapshot with other keepers
abbrev pub over : Snapshot → Meaning → Meaning → Snapshot
over p m g =
    record {
      ledger = record { top = p.ledger.top; charge = p.ledger.charge; half = p.ledger.half; section = p.ledger.section; money = m.amounts; goods = g.amounts };
      money = m;
      goods = g;
    }

-- an event that the section settled, once both keepers have been asked for its transfers
module _ (went : Entries → Type 0) (same : went no_entry) (p : Snapshot) (whole : over p p.money p.goods ≡ p) (n : ℕ) (e : Event) (t : Settlement) (out : Settles p.ledger n e (Ok t)) where
  pub transfers_refused : (m g : Meaning) (d : Refusal) → keepers_say p.ledger.money p.ledger.goods (feed p) (option_map entry_of t.effect.money) (option_map entry_of t.effect.goods) ≡ Some d → m ≡ p.money → g ≡ p.goods
      → (r : Result Answers Refusal) → IsErrAnd r (λ x. x ≡ d) → Called went p (Settle n e) r (over p m g)
  transfers_refused m g d h em eg r exits =
      let exit = err_from_is_err_and r exits in
      let said = ap₂ (keepers_say p.ledger.money p.ledger.goods (feed p)) (sym out.1.1.money) (sym out.1.1.goods) ∙ h in
      rw (exit.1, exit.2) (allowed_ok (checks p.ledger (Settle n e)) _ out.0 ∙ said, ap₂ (over p) em eg ∙ whole, same)
