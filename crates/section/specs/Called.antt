-- What is owed of a call that a section takes. Assumes nothing.
use Rattle.std.specs.Prelude.{◌≡◌, ℕ, cond, Ok, Err, Result}
use Rattle.charge.specs.Charges.{Charge}
use Rattle.rules.specs.declared.rows.Row.{Row}
use Rattle.rules.specs.declared.orders.Order.{Order}
use Rattle.rules.specs.declared.refusals.Refusal.{Refusal}
use Rattle.rules.specs.declared.calls.Call.{Call}
use Rattle.rules.specs.declared.requests.Answers.{Answers}
use Rattle.rules.specs.Answering.{one, two}
use Rattle.rules.specs.Limits.{Section, Ledger}
use Rattle.rules.specs.Checks.{checks}
use Rattle.rules.specs.Holds.{holds_goods, order_goods, order_money}
use Rattle.rules.specs.Orders.{unfilled}
use Rattle.rules.specs.Effects.{answer, section_after}
use Rattle.rules.specs.Rulings.{Checked}

-- the answers of a call that answers one number, and of one that answers two
abbrev pub answers_of_one : Result ℕ Refusal → Result Answers Refusal
answers_of_one (Ok v) = Ok (one v)
answers_of_one (Err e) = Err e

abbrev pub answers_of_two : Result (ℕ × ℕ) Refusal → Result Answers Refusal
answers_of_two (Ok v) = Ok (two v.0 v.1)
answers_of_two (Err e) = Err e

-- a call came out by the rules: accepted with its answers and its effect on the section, or refused by the first check that is met
abbrev pub SectionCalled : Ledger → Call → Result Answers Refusal → Section → Type 0
SectionCalled b c r d = Checked (checks b c) (λ v. (v ≡ answer b c) × (d ≡ section_after b c)) r

-- the same of a call whose answer is not the section's to work out
abbrev pub SectionChanged : {V : Type 0} → Ledger → Call → Result V Refusal → Section → Type 0
SectionChanged b c r d = Checked (checks b c) (λ _. d ≡ section_after b c) r

-- what an order of a row would hold, of goods or of money
abbrev pub hold_of : Charge → Row → Order → ℕ
hold_of charge r o = cond (holds_goods r.kind o.side) (order_goods r (unfilled o)) (order_money charge r (unfilled o))
