-- What limits rest on, shown of the opening and kept by every accepted call.
use Rattle.std.proofs.Common.{◌≡◌, ℕ, ◌≤◌, false, ◌||◌, eqb, leb, ◌⊎◌, List, map, Some, None, Option, refl, subst, inl, inr, arith}
use Rattle.std.specs.List.{AllByRecursion as All}
use Rattle.std.proofs.ByRecursion.{All-weaker, all_kept_by, All-map, All-push}
use Rattle.std.proofs.lemmas.Bool.{cases_Bool, and_parts, leb-true}
use Rattle.charge.specs.Charges.{Charge, Fair}
use Rattle.rules.specs.declared.rows.Row.{Row}
use Rattle.rules.specs.declared.orders.LiveOrder.{LiveOrder}
use Rattle.rules.specs.declared.contracts.Trade.{Trade}
use Rattle.rules.specs.declared.contracts.State.{State}
use Rattle.rules.specs.declared.contracts.Contract.{Contract}
use Rattle.rules.specs.declared.contracts.Event.TheVariants.{Funding, Delivery, Default}
use Rattle.rules.specs.declared.calls.Call.{Call}
use Rattle.rules.specs.declared.calls.Call.TheVariants.{Deposit, Withdraw, Shift, DepositGoods, WithdrawGoods, Place, Cancel, Execute, Rerate, EndTrading, Settle, EndSession}
use Rattle.rules.specs.Limits.{Ledger, opening, contract_at, contract_row}
use Rattle.rules.specs.Orders.{unfilled, other_order, lowered_by, has_rest, goes_on, contract_of}
use Rattle.rules.specs.Settling.{event_state}
use Rattle.rules.specs.Entries.{entries}
use Rattle.rules.specs.Effects.{in_state, settled, other_contract, section_after, after}
use Rattle.rules.specs.Runs.{is_call_of_rating}
use Rattle.rules.specs.History.{Done}
use Rattle.law.proofs.Lists.{Distinct, distinct_push, distinct_kept, distinct_map}
use Rattle.law.proofs.Rows.{Low, low_in_force, low_rerated, low_row}
use Rattle.law.proofs.Holding.{Limit, Proper, amount_at, holds, untaken, takes_none}
use Rattle.law.proofs.Passing.{TradePassed}
use Rattle.law.proofs.Accepting.{Accepts}
use Rattle.law.proofs.Tied.{traded, Live, Tie}
use Rattle.law.proofs.TiedEvents.{response_at, pays}
use Rattle.law.proofs.Backing.{Backed, Guarded, guarded_proper, stays_covered, untaken_backs, taking_backs, goods_taking_backs, order_backs, cancel_backs, closing_backs, rating_backs}
use Rattle.law.proofs.Filling.{Small, trade_backs}
use Rattle.law.proofs.Settling.{number_of, funding_backs, delivery_backs, default_backs}

pub record Sound (b : Ledger) : Type 0 where
  pub fair : Fair b.charge
  pub low : All Low b.section.rows
  pub small : All Small b.section.orders
  pub numbers : Distinct number_of b.section.contracts
  pub covered : (l : Limit) → Guarded l → holds b l ≤ amount_at b l

-- ---- every accepted call is backed at every register; a rating at all but position registers

abbrev pub Spared : Call → Limit → Type 0
Spared c l = (is_call_of_rating c ≡ false) ⊎ Guarded l

rated : (b : Ledger) (i rate : ℕ) (l : Limit) → Spared (Rerate i rate) l → Backed b (Rerate i rate) l
rated b i rate l (inl e) = let z : ◌≡◌ {A = ℕ} 0 1 = cc in absurd (omega arith)
rated b i rate l (inr g) = rating_backs b i rate l g

pub call_backs : (rows : List Row) (past : List Done) (b : Ledger) (c : Call) → Accepts b c → Tie rows past b.section → Sound b → (l : Limit) → Proper l → Spared c l → Backed b c l
call_backs rows past b (Deposit m p x) a t s l ok r = untaken_backs b (Deposit m p x) l (untaken (entries b (Deposit m p x)) (λ r. refl) (λ r. refl) l) (omega arith)
call_backs rows past b (Withdraw m p x) a t s l ok r = taking_backs b (Withdraw m p x) m p x l ok a.passed.free refl (λ r. refl) (takes_none 0)
call_backs rows past b (Shift m p x) a t s l ok r = taking_backs b (Shift m p x) m p x l ok a.passed.free refl (λ r. refl) (takes_none 0)
call_backs rows past b (DepositGoods m i x) a t s l ok r = untaken_backs b (DepositGoods m i x) l (untaken (entries b (DepositGoods m i x)) (λ r. refl) (λ r. refl) l) (omega arith)
call_backs rows past b (WithdrawGoods m i x) a t s l ok r = goods_taking_backs b m i x l ok (low_row b.section.rows i s.low a.passed.row) a.passed.free
call_backs rows past b (Place o) a t s l ok r = order_backs b o l a.passed.free
call_backs rows past b (Cancel n) a t s l ok r = cancel_backs b n l
call_backs rows past b (Execute x) a t s l ok r = trade_backs b s.fair x l a.passed s.small
call_backs rows past b (Rerate i rate) a t s l ok r = rated b i rate l r
call_backs rows past b EndTrading a t s l ok r = closing_backs b l
call_backs rows past b (Settle n Funding) a t s l ok r = funding_backs b n l a.passed s.numbers
call_backs rows past b (Settle n (Delivery kg)) a t s l ok r = delivery_backs b n kg l ok a.passed (pays rows past b n kg (response_at rows past b n a.passed.live t)) s.low s.numbers
call_backs rows past b (Settle n Default) a t s l ok r = default_backs b n l ok a.passed s.numbers
call_backs rows past b EndSession a t s l ok r = untaken_backs b EndSession l (untaken (entries b EndSession) (λ r. refl) (λ r. refl) l) (omega arith)

-- ---- contracts' numbers stay different

new_number : (rows : List Row) (past : List Done) (b : Ledger) (t : Trade) → TradePassed b t → Tie rows past b.section → All (λ k. number_of k ≡ t.contract → ⊥) b.section.contracts
new_number rows past b t a c =
    All-weaker (Live rows past) (λ k. number_of k ≡ t.contract → ⊥) (λ k l e.
    let x : traded past t.contract ≡ Some k.trade = subst (λ i. traded past i ≡ Some k.trade) e l.trade in
    let y : traded past t.contract ≡ None = c.fresh t.contract a.number in
    let z : ◌≡◌ {A = ℕ} 0 1 = cc in omega arith) b.section.contracts c.contracts

same_number : (n : ℕ) (s : State) (k : Contract) → number_of (in_state n s k) ≡ number_of k
same_number n s k = elim (cases_Bool (eqb k.trade.contract n)) [ inl e ↦ rw e refl | inr e ↦ rw e refl ]

numbers_settled : (n : ℕ) (next : Option State) (ks : List Contract) → Distinct number_of ks → Distinct number_of (settled n next ks)
numbers_settled n None ks d = distinct_kept number_of (other_contract n) ks d
numbers_settled n (Some s) ks d = distinct_map number_of (in_state n s) (same_number n s) ks d

numbers_kept : (rows : List Row) (past : List Done) (b : Ledger) (c : Call) → Accepts b c → Tie rows past b.section → Distinct number_of b.section.contracts → Distinct number_of (section_after b c).contracts
numbers_kept rows past b (Deposit m p x) a k d = d
numbers_kept rows past b (Withdraw m p x) a k d = d
numbers_kept rows past b (Shift m p x) a k d = d
numbers_kept rows past b (DepositGoods m i x) a k d = d
numbers_kept rows past b (WithdrawGoods m i x) a k d = d
numbers_kept rows past b (Place o) a k d = d
numbers_kept rows past b (Cancel n) a k d = d
numbers_kept rows past b (Execute t) a k d = distinct_push number_of b.section.contracts (contract_of b t) d (new_number rows past b t a.passed k)
numbers_kept rows past b (Rerate i rate) a k d = d
numbers_kept rows past b EndTrading a k d = d
numbers_kept rows past b (Settle n e) a k d = numbers_settled n (event_state (contract_row b n) (contract_at b n) e) b.section.contracts d
numbers_kept rows past b EndSession a k d = d

-- ---- rests stay within the charge's law, rows' numbers within the goods registers

small_lowered : (t : Trade) (o : LiveOrder) → Small o → Small (lowered_by t o)
small_lowered t o h = elim (cases_Bool (eqb o.order.number t.buy || eqb o.order.number t.sell)) [ inl e ↦ simp e (omega arith) | inr e ↦ simp e h ]

small_kept : (b : Ledger) (c : Call) → Accepts b c → All Small b.section.orders → All Small (section_after b c).orders
small_kept b (Deposit n p x) a k = k
small_kept b (Withdraw n p x) a k = k
small_kept b (Shift n p x) a k = k
small_kept b (DepositGoods n i x) a k = k
small_kept b (WithdrawGoods n i x) a k = k
small_kept b (Place o) a k = All-push Small b.section.orders (unfilled o) k (leb-true o.lots 10000 (and_parts (leb 1 o.lots) (leb o.lots 10000) a.passed.lots).1)
small_kept b (Cancel n) a k = all_kept_by (other_order n) Small b.section.orders k
small_kept b (Execute t) a k = all_kept_by has_rest Small (map (lowered_by t) b.section.orders) (All-map Small (lowered_by t) b.section.orders (All-weaker Small (λ o. Small (lowered_by t o)) (small_lowered t) b.section.orders k))
small_kept b (Rerate i rate) a k = k
small_kept b EndTrading a k = all_kept_by (goes_on b.section.day) Small b.section.orders k
small_kept b (Settle n e) a k = k
small_kept b EndSession a k = k

low_kept : (b : Ledger) (c : Call) → All Low b.section.rows → All Low (section_after b c).rows
low_kept b (Deposit m p x) h = h
low_kept b (Withdraw m p x) h = h
low_kept b (Shift m p x) h = h
low_kept b (DepositGoods m i x) h = h
low_kept b (WithdrawGoods m i x) h = h
low_kept b (Place o) h = h
low_kept b (Cancel n) h = h
low_kept b (Execute t) h = h
low_kept b (Rerate i rate) h = low_rerated i rate b.section.rows h
low_kept b EndTrading h = h
low_kept b (Settle n e) h = h
low_kept b EndSession h = h

-- ---- the opening, and every call

nothing_held : (top : ℕ) (charge : Charge) (rows : List Row) (xs ys : List ℕ) (l : Limit) → holds (opening top charge rows xs ys) l ≤ amount_at (opening top charge rows xs ys) l
nothing_held top charge rows xs ys l = omega arith

pub sound_at_opening : (top : ℕ) (charge : Charge) (rows : List Row) (xs ys : List ℕ) → Fair charge → Sound (opening top charge rows xs ys)
sound_at_opening top charge rows xs ys fair =
    record { fair = fair; low = low_in_force top rows; small = tt; numbers = tt; covered = λ l g. nothing_held top charge rows xs ys l }

pub sound_kept : (rows : List Row) (past : List Done) (b : Ledger) (c : Call) → Accepts b c → Tie rows past b.section → Sound b → Sound (after b c)
sound_kept rows past b c a t s =
    record {
      fair = s.fair;
      low = low_kept b c s.low;
      small = small_kept b c a s.small;
      numbers = numbers_kept rows past b c a t s.numbers;
      covered = λ l g. stays_covered b c l a (call_backs rows past b c a t s l (guarded_proper l g) (inr g)) (s.covered l g);
    }
