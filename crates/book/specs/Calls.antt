-- What is owed of the checks of a call to a book, and of the call. Assumes nothing.
use Rattle.std.specs.Prelude.{Result}
use Rattle.rules.specs.declared.refusals.Refusal.{Refusal}
use Rattle.rules.specs.declared.requests.Answers.{Answers}
use Rattle.rules.specs.declared.calls.Call.{Call}
use Rattle.rules.specs.Checks.{checks}
use Rattle.rules.specs.Limits.{Ledger}
use Rattle.rules.specs.Rulings as rulings
use Rattle.rules.specs.Runs.{Called}
use Rattle.book.specs.declared.view.BookView as view

module _ {B : Type 0} (s : view.Ghosts B) where
  -- the ledger of a book
  abbrev pub ledger : B → Ledger
  ledger b = (s.snapshot b).ledger

  -- a call to a book came out by the rules
  abbrev pub Calls : B → Call → Result Answers Refusal → B → Type 0
  Calls b c r b' = Called (λ es. s.goes b es b') (s.snapshot b) c r (s.snapshot b')

  -- the book's checks of a call let it pass, with what is then known of it, or the first that is met refuses it
  abbrev pub Checked : {X : Type 0} → B → Call → (X → Type 0) → Result X Refusal → Type 0
  Checked b c P r = rulings.Checked (checks (ledger b) c) P r
