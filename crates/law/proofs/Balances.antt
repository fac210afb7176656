-- What accepted calls move is what their entries move: amounts are the opening's and all brought, less all taken.
use Rattle.std.proofs.Common.{◌≡◌, ℕ, ◌+◌, true, false, List, [], ◌∷◌, ◌++◌, get_or, Some, None, sum_by, Option, sym, refl, ap, ◌∙◌, subst, inl, inr, arith}
use Rattle.std.proofs.lemmas.List.Sums.{sum_by_push}
use Rattle.std.proofs.lemmas.Bool.{cases_Bool}
use Rattle.keeper.specs.declared.entries.Entry.{Entry}
use Rattle.keeper.specs.declared.entries.Entry.TheVariants.{Transfer}
use Rattle.rules.specs.declared.rows.Row.{Row}
use Rattle.rules.specs.declared.contracts.Event.{Event}
use Rattle.rules.specs.declared.contracts.Event.TheVariants.{Funding, Delivery, Default}
use Rattle.rules.specs.declared.calls.Call.{Call}
use Rattle.rules.specs.declared.calls.Call.TheVariants.{Deposit, Withdraw, Shift, DepositGoods, WithdrawGoods, Place, Cancel, Execute, Rerate, EndTrading, Settle, EndSession}
use Rattle.rules.specs.Terms.{warehoused, position_register, clearing_register, goods_register}
use Rattle.rules.specs.Holds.{is_funded}
use Rattle.rules.specs.Limits.{Ledger, position, contract_at, contract_row}
use Rattle.rules.specs.Settling.{counted, payment, failing, injured, penalty_paid}
use Rattle.rules.specs.Entries.{Entries, entries, transfer}
use Rattle.rules.specs.Effects.{after, answer}
use Rattle.rules.specs.History.{Done, event_moves, moves, call_moves, brings, takes_out, money_brought, money_taken, goods_brought, goods_taken, row_in, funded_in}
use Rattle.law.proofs.Entering.{entered_at, transfer_takes, transfer_brings}
use Rattle.law.proofs.Rows.{alike}
use Rattle.law.proofs.Accepting.{Accepts}
use Rattle.law.proofs.Running.{done}
use Rattle.law.proofs.Pushing.{moves_push}
use Rattle.law.proofs.Tied.{Tie}
use Rattle.law.proofs.TiedEvents.{Response, response_at}

-- two entries, or none, that move the same
record MovesSame (e f : Option Entry) : Type 0 where
  pub brought : (r : ℕ) → brings r e ≡ brings r f
  pub taken : (r : ℕ) → takes_out r e ≡ takes_out r f

-- the entries of a call, and what the accepted calls say that it moves
record Agrees (e f : Entries) : Type 0 where
  pub money : MovesSame e.money f.money
  pub goods : MovesSame e.goods f.goods

same_moves : (e : Option Entry) → MovesSame e e
same_moves e = record { brought = λ r. refl; taken = λ r. refl }

agrees : (e : Entries) → Agrees e e
agrees e = record { money = same_moves e.money; goods = same_moves e.goods }

transfer_moves : (g q a : ℕ) → MovesSame (transfer g q a) (Some (Transfer g q a))
transfer_moves g q a = record { brought = transfer_brings g q a; taken = transfer_takes g q a }

-- ---- events

abbrev moved : List Row → List Done → Ledger → Call → Entries
moved rows past b c = call_moves rows past c (answer b c).first (answer b c).second

-- the failing side is the one that the accepted calls tell of
default_moves : (rows : List Row) (past : List Done) (b : Ledger) (n : ℕ) → Response rows past b n → (x y : ℕ) →
    event_moves rows past n Default x y ≡ record { money = Some (Transfer (position_register (failing (contract_at b n))) (position_register (injured (contract_at b n))) x); goods = None }
default_moves rows past b n t x y =
    elim (cases_Bool (is_funded (contract_at b n).state)) [
      | inl e ↦ let f : funded_in past n ≡ true = t.funded ∙ e in simp (f, e, t.buyer, t.seller)
      | inr e ↦ let f : funded_in past n ≡ false = t.funded ∙ e in simp (f, e, t.buyer, t.seller)
    ]

event_agrees : (rows : List Row) (past : List Done) (b : Ledger) (n : ℕ) (e : Event) → Response rows past b n → Agrees (entries b (Settle n e)) (moved rows past b (Settle n e))
event_agrees rows past b n Funding t = agrees (entries b (Settle n Funding))
event_agrees rows past b n (Delivery kg) t =
    let k = contract_at b n in
    let r = contract_row b n in
    let kind : warehoused r.kind ≡ warehoused (row_in rows past n).kind = alike (λ x. warehoused x.kind) (λ x. refl) r (row_in rows past n) t.row in
    record {
      money = rw (t.buyer, t.seller) (transfer_moves (clearing_register k.buyer) (clearing_register k.seller) (payment r k kg));
      goods = elim (cases_Bool (warehoused r.kind)) [
        | inl e ↦ let f : warehoused (row_in rows past n).kind ≡ true = sym kind ∙ e in
            rw (e, f, t.buyer, t.seller, t.instrument) (transfer_moves (goods_register k.seller k.instrument) (goods_register k.buyer k.instrument) (counted r k kg))
        | inr e ↦ let f : warehoused (row_in rows past n).kind ≡ false = sym kind ∙ e in rw (e, f) (same_moves None)
      ];
    }
event_agrees rows past b n Default t =
    let k = contract_at b n in
    let paid = penalty_paid b.charge (contract_row b n) (position b (failing k)) k in
    subst (Agrees (entries b (Settle n Default))) (sym (default_moves rows past b n t paid (answer b (Settle n Default)).second))
    (record { money = transfer_moves (position_register (failing k)) (position_register (injured k)) paid; goods = same_moves None })

-- ---- every call

call_agrees : (rows : List Row) (past : List Done) (b : Ledger) (c : Call) → Accepts b c → Tie rows past b.section → Agrees (entries b c) (moved rows past b c)
call_agrees rows past b (Deposit m p a) h c = agrees _
call_agrees rows past b (Withdraw m p a) h c = agrees _
call_agrees rows past b (Shift m p a) h c = agrees _
call_agrees rows past b (DepositGoods m i a) h c = agrees _
call_agrees rows past b (WithdrawGoods m i a) h c = agrees _
call_agrees rows past b (Place o) h c = agrees _
call_agrees rows past b (Cancel n) h c = agrees _
call_agrees rows past b (Execute t) h c = agrees _
call_agrees rows past b (Rerate i rate) h c = agrees _
call_agrees rows past b EndTrading h c = agrees _
call_agrees rows past b (Settle n Funding) h c = event_agrees rows past b n Funding (response_at rows past b n h.passed.live c)
call_agrees rows past b (Settle n (Delivery kg)) h c = event_agrees rows past b n (Delivery kg) (response_at rows past b n h.passed.live c)
call_agrees rows past b (Settle n Default) h c = event_agrees rows past b n Default (response_at rows past b n h.passed.live c)
call_agrees rows past b EndSession h c = agrees _

-- amounts beside the opening's, by what was brought and taken
pub record Balanced (rows : List Row) (xs ys : List ℕ) (past : List Done) (b : Ledger) : Type 0 where
  pub money : (r : ℕ) → get_or b.money r 0 + money_taken rows past r ≡ get_or xs r 0 + money_brought rows past r
  pub goods : (r : ℕ) → get_or b.goods r 0 + goods_taken rows past r ≡ get_or ys r 0 + goods_brought rows past r

pushed : (rows : List Row) (past : List Done) (d : Done) (f : Entries → ℕ) → sum_by f (moves rows [] (past ++ d ∷ [])) ≡ sum_by f (moves rows [] past) + f (call_moves rows past d.call d.first d.second)
pushed rows past d f = ap (sum_by f) (moves_push rows [] past d) ∙ sum_by_push f (moves rows [] past) (call_moves rows past d.call d.first d.second)

pub keeps_balance : (rows : List Row) (xs ys : List ℕ) (past : List Done) (b : Ledger) (c : Call) → Accepts b c → Tie rows past b.section → Balanced rows xs ys past b → Balanced rows xs ys (past ++ done b c ∷ []) (after b c)
keeps_balance rows xs ys past b c a k h =
    let m = call_agrees rows past b c a k in
    let push = pushed rows past (done b c) in
    record {
      money = λ r. omega (arith, push (λ e. takes_out r e.money), push (λ e. brings r e.money), m.money.brought r, m.money.taken r, entered_at b.money (entries b c).money a.money r, h.money r);
      goods = λ r. omega (arith, push (λ e. takes_out r e.goods), push (λ e. brings r e.goods), m.goods.brought r, m.goods.taken r, entered_at b.goods (entries b c).goods a.goods r, h.goods r);
    }
