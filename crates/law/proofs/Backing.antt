-- What a call leaves held of a register, and takes from it, was held before or was free: the rule for every limit.
use Rattle.std.proofs.Common.{◌≡◌, ℕ, ◌+◌, ◌*◌, ◌≤◌, Bool, true, false, cond, ◌⊎◌, refl, subst, inl, inr, arith}
use Rattle.std.proofs.lemmas.List.Sums.{sum_by_push}
use Rattle.rules.specs.declared.orders.Order.{Order}
use Rattle.rules.specs.declared.calls.Account.{Account}
use Rattle.rules.specs.declared.calls.Account.TheVariants.{Position}
use Rattle.rules.specs.declared.calls.Call.{Call}
use Rattle.rules.specs.declared.calls.Call.TheVariants.{Place, Cancel, Rerate, EndTrading, WithdrawGoods}
use Rattle.rules.specs.Terms.{position_register, clearing_register, money_register, goods_register}
use Rattle.rules.specs.Holds.{order_goods, kilograms_held}
use Rattle.rules.specs.Limits.{Ledger, row_at, if_for}
use Rattle.rules.specs.Orders.{unfilled, is_in_goods, order_hold, other_order, goes_on}
use Rattle.rules.specs.Entries.{entries}
use Rattle.rules.specs.Effects.{after}
use Rattle.law.proofs.Lists.{sum_kept, sum_same}
use Rattle.law.proofs.Rows.{alike, rerated_alike}
use Rattle.law.proofs.Entering.{entered_at}
use Rattle.law.proofs.Holding.{Limit, position_of, clearing_of, goods_of, money_of, Proper, amount_at, order_on, contract_on, holds, Free, share, share_cases, share_none, order_shares, taken_from, brought_to, Takes, takes_none, untaken, taken_shares}
use Rattle.law.proofs.Passing.{limit_of}
use Rattle.law.proofs.Accepting.{Accepts}

abbrev pub Backed : Ledger → Call → Limit → Type 0
Backed b c l = (holds (after b c) l + taken_from l (entries b c) ≤ holds b l) ⊎ (holds (after b c) l + taken_from l (entries b c) ≤ amount_at b l)

-- ---- what it gives

amount-after : (b : Ledger) (c : Call) → Accepts b c → (l : Limit) → amount_at (after b c) l + taken_from l (entries b c) ≡ amount_at b l + brought_to l (entries b c)
amount-after b c a (position_of m) = entered_at b.money (entries b c).money a.money (position_register m)
amount-after b c a (clearing_of m) = entered_at b.money (entries b c).money a.money (clearing_register m)
amount-after b c a (goods_of m i) = entered_at b.goods (entries b c).goods a.goods (goods_register m i)

-- a limit that was not below zero is not
pub stays_covered : (b : Ledger) (c : Call) (l : Limit) → Accepts b c → Backed b c l → holds b l ≤ amount_at b l → holds (after b c) l ≤ amount_at (after b c) l
stays_covered b c l a (inl h) k = omega (arith, amount-after b c a l)
stays_covered b c l a (inr h) k = omega (arith, amount-after b c a l)

-- any limit is not below zero, or not lower than before
pub stays_firm : (b : Ledger) (c : Call) (l : Limit) → Accepts b c → Backed b c l → (holds (after b c) l ≤ amount_at (after b c) l) ⊎ (amount_at b l + holds (after b c) l ≤ amount_at (after b c) l + holds b l)
stays_firm b c l a (inl h) = inr (omega (arith, amount-after b c a l))
stays_firm b c l a (inr h) = inl (omega (arith, amount-after b c a l))

-- ---- how it is shown

-- nothing is taken, and no more is held
pub untaken_backs : (b : Ledger) (c : Call) (l : Limit) → taken_from l (entries b c) ≡ 0 → holds (after b c) l ≤ holds b l → Backed b c l
untaken_backs b c l t h = inl (omega arith)

-- so much is newly held of one register or taken from it, and was free
pub free_backs : (b : Ledger) (c : Call) (k : Limit) (x : ℕ) (l : Limit) → Free b k x → holds (after b c) l + taken_from l (entries b c) ≤ holds b l + share k l x → Backed b c l
free_backs b c k x l free h =
    elim (share_cases k l x) [
      | inl e ↦ inl (omega (arith, e, h))
      | inr (s, e) ↦ inr (omega (arith, subst (λ i. Free b i x) s free, e, h))
    ]

-- ---- withdrawals and shifts

pub taking_backs : (b : Ledger) (c : Call) (m : ℕ) (p : Account) (x : ℕ) (l : Limit) → Proper l → Free b (money_of m p) x → holds (after b c) l ≡ holds b l →
    Takes (entries b c).money (money_register m p) x → Takes (entries b c).goods (goods_register 0 0) 0 → Backed b c l
taking_backs b c m p x l ok free same money goods =
    free_backs b c (money_of m p) x l free (omega (arith, same, taken_shares (entries b c) m p x 0 0 0 money goods (omega arith) l ok, share_none (goods_of 0 0) l))

pub goods_taking_backs : (b : Ledger) (m i kg : ℕ) (l : Limit) → Proper l → i ≤ 15 → Free b (goods_of m i) kg → Backed b (WithdrawGoods m i kg) l
goods_taking_backs b m i kg l ok low free =
    free_backs b (WithdrawGoods m i kg) (goods_of m i) kg l free (omega (arith, taken_shares (entries b (WithdrawGoods m i kg)) 0 Position 0 m i kg (takes_none 0) (λ r. refl) low l ok, share_none (position_of 0) l))

-- ---- orders

one_share : (v : Bool) (p g l : Limit) (x y : ℕ) → share p l (cond v 0 y) + share g l (cond v x 0) ≡ share (cond v g p) l (cond v (cond v x 0) (cond v 0 y))
one_share true p g l x y = omega (arith, share_none p l)
one_share false p g l x y = omega (arith, share_none g l)

pub order_backs : (b : Ledger) (o : Order) (l : Limit) → Free b (limit_of b o) (order_hold b o) → Backed b (Place o) l
order_backs b o l free =
    let r = row_at b o.instrument in
    let new = order_shares b l (unfilled o) in
    let one = one_share (is_in_goods b o) (position_of o.member) (goods_of o.member o.instrument) l (o.lots * r.weight) (b.charge r.rate o.price o.lots) in
    free_backs b (Place o) (limit_of b o) (order_hold b o) l free
    (omega (arith, untaken (entries b (Place o)) (λ r. refl) (λ r. refl) l, sum_by_push (order_on b l) b.section.orders (unfilled o), new, one))

pub cancel_backs : (b : Ledger) (n : ℕ) (l : Limit) → Backed b (Cancel n) l
cancel_backs b n l = untaken_backs b (Cancel n) l (untaken (entries b (Cancel n)) (λ r. refl) (λ r. refl) l) (omega (arith, sum_kept (order_on b l) (other_order n) b.section.orders))

pub closing_backs : (b : Ledger) (l : Limit) → Backed b EndTrading l
closing_backs b l = untaken_backs b EndTrading l (untaken (entries b EndTrading) (λ r. refl) (λ r. refl) l) (omega (arith, sum_kept (order_on b l) (goes_on b.section.day) b.section.orders))

-- ---- a rating, which changes what is held of position registers alone

abbrev pub Guarded : Limit → Type 0
Guarded (position_of m) = ⊥
Guarded (clearing_of m) = Unit {0}
Guarded (goods_of m i) = i ≤ 15

pub guarded_proper : (l : Limit) → Guarded l → Proper l
guarded_proper (position_of m) g = absurd g
guarded_proper (clearing_of m) g = tt
guarded_proper (goods_of m i) g = g

rated_holds : (b : Ledger) (i rate : ℕ) (l : Limit) → Guarded l → holds (after b (Rerate i rate)) l ≡ holds b l
rated_holds b i rate (position_of m) g = absurd g
rated_holds b i rate (clearing_of m) g = refl
rated_holds b i rate (goods_of m j) g =
    let e = after b (Rerate i rate) in
    let rated = λ (n : ℕ). rerated_alike n i rate b.section.rows in
    let os = sum_same (order_on e (goods_of m j)) (order_on b (goods_of m j)) (λ o. let n = o.order.instrument in alike (λ r. if_for m o.order.member (if_for j n (order_goods r o))) (λ r. refl) (row_at e n) (row_at b n) (rated n)) b.section.orders in
    let ks = sum_same (contract_on e (goods_of m j)) (contract_on b (goods_of m j)) (λ k. let n = k.instrument in alike (λ r. if_for m k.seller (if_for j n (kilograms_held r k))) (λ r. refl) (row_at e n) (row_at b n) (rated n)) b.section.contracts in
    omega (arith, os, ks)

pub rating_backs : (b : Ledger) (i rate : ℕ) (l : Limit) → Guarded l → Backed b (Rerate i rate) l
rating_backs b i rate l g = untaken_backs b (Rerate i rate) l (untaken (entries b (Rerate i rate)) (λ r. refl) (λ r. refl) l) (omega (arith, rated_holds b i rate l g))
