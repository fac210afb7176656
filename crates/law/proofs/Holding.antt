-- The registers that are held against: what orders and contracts hold of them, and what entries take from them.
use Rattle.std.proofs.Common.{◌≡◌, ℕ, ◌+◌, ◌*◌, ◌≤◌, Bool, true, false, cond, ◌&&◌, eqb, ◌⊎◌, List, None, sum_by, Option, sym, refl, ap, ◌∙◌, inl, inr, arith}
use Rattle.std.proofs.lemmas.Bool.{cases_Bool, eqb-true, eqb-false, eq-eqb, ne_eqb, and_parts}
use Rattle.std.proofs.lemmas.Bool.Decides.{nat_tests}
use Rattle.keeper.specs.declared.entries.Entry.{Entry}
use Rattle.charge.specs.Charges.{Charge}
use Rattle.rules.specs.declared.rows.Row.{Row}
use Rattle.rules.specs.declared.orders.LiveOrder.{LiveOrder}
use Rattle.rules.specs.declared.contracts.Contract.{Contract}
use Rattle.rules.specs.declared.calls.Account.{Account}
use Rattle.rules.specs.declared.calls.Account.TheVariants.{Position, Clearing}
use Rattle.rules.specs.Terms.{position_register, clearing_register, money_register, goods_register}
use Rattle.rules.specs.Holds.{order_money, order_goods, buyer_charge, seller_charge, due, kilograms_held}
use Rattle.rules.specs.Limits.{Ledger, row_of, row_at, position, clearing, stock, clearing_holds, if_for, contract_on_clearing}
use Rattle.rules.specs.Entries.{Entries}
use Rattle.rules.specs.History.{brings, takes_out}
use Rattle.law.proofs.Lists.{sum_zero}
use Rattle.law.proofs.Entering.{none_either}

-- a member's position register, his clearing register, his goods register for an instrument
pub data Limit : Type 0 where
  position_of : ℕ → Limit
  clearing_of : ℕ → Limit
  goods_of : ℕ → ℕ → Limit

abbrev pub money_of : ℕ → Account → Limit
money_of m Position = position_of m
money_of m Clearing = clearing_of m

-- goods are kept for instruments up to 15
abbrev pub Proper : Limit → Type 0
Proper (position_of m) = Unit {0}
Proper (clearing_of m) = Unit {0}
Proper (goods_of m i) = i ≤ 15

abbrev pub amount_at : Ledger → Limit → ℕ
amount_at b (position_of m) = position b m
amount_at b (clearing_of m) = clearing b m
amount_at b (goods_of m i) = stock b m i

-- what an order and a contract hold of a register, by the charge and the rows in force
abbrev pub order_held : Charge → List Row → Limit → LiveOrder → ℕ
order_held charge rows (position_of m) o = if_for m o.order.member (order_money charge (row_of rows o.order.instrument) o)
order_held charge rows (clearing_of m) o = 0
order_held charge rows (goods_of m i) o = if_for m o.order.member (if_for i o.order.instrument (order_goods (row_of rows o.order.instrument) o))

abbrev pub contract_held : Charge → List Row → Limit → Contract → ℕ
contract_held charge rows (position_of m) k = if_for m k.buyer (buyer_charge charge (row_of rows k.instrument) k) + if_for m k.seller (seller_charge charge (row_of rows k.instrument) k)
contract_held charge rows (clearing_of m) k = contract_on_clearing m k
contract_held charge rows (goods_of m i) k = if_for m k.seller (if_for i k.instrument (kilograms_held (row_of rows k.instrument) k))

abbrev pub order_on : Ledger → Limit → LiveOrder → ℕ
order_on b l o = order_held b.charge b.section.rows l o

abbrev pub contract_on : Ledger → Limit → Contract → ℕ
contract_on b l k = contract_held b.charge b.section.rows l k

abbrev pub holds : Ledger → Limit → ℕ
holds b l = sum_by (order_on b l) b.section.orders + sum_by (contract_on b l) b.section.contracts

-- orders hold nothing of a clearing register
pub clearing_held : (b : Ledger) (m : ℕ) → holds b (clearing_of m) ≡ clearing_holds b m
clearing_held b m = omega (arith, sum_zero b.section.orders)

-- so much is free
abbrev pub Free : Ledger → Limit → ℕ → Type 0
Free b l x = holds b l + x ≤ amount_at b l

-- ---- what a sum on one register counts for another: all of it if they are the same, else nothing

abbrev pub same : Limit → Limit → Bool
same (position_of n) (position_of m) = eqb n m
same (position_of n) (clearing_of m) = false
same (position_of n) (goods_of m i) = false
same (clearing_of n) (position_of m) = false
same (clearing_of n) (clearing_of m) = eqb n m
same (clearing_of n) (goods_of m i) = false
same (goods_of n j) (position_of m) = false
same (goods_of n j) (clearing_of m) = false
same (goods_of n j) (goods_of m i) = eqb n m && eqb j i

same_is : (k l : Limit) → same k l ≡ true → k ≡ l
same_is (position_of n) (position_of m) e = ap position_of (eqb-true n m e)
same_is (position_of n) (clearing_of m) e = let z : ◌≡◌ {A = ℕ} 0 1 = cc in absurd (omega arith)
same_is (position_of n) (goods_of m i) e = let z : ◌≡◌ {A = ℕ} 0 1 = cc in absurd (omega arith)
same_is (clearing_of n) (position_of m) e = let z : ◌≡◌ {A = ℕ} 0 1 = cc in absurd (omega arith)
same_is (clearing_of n) (clearing_of m) e = ap clearing_of (eqb-true n m e)
same_is (clearing_of n) (goods_of m i) e = let z : ◌≡◌ {A = ℕ} 0 1 = cc in absurd (omega arith)
same_is (goods_of n j) (position_of m) e = let z : ◌≡◌ {A = ℕ} 0 1 = cc in absurd (omega arith)
same_is (goods_of n j) (clearing_of m) e = let z : ◌≡◌ {A = ℕ} 0 1 = cc in absurd (omega arith)
same_is (goods_of n j) (goods_of m i) e = let p = and_parts (eqb n m) (eqb j i) e in let q = eqb-true n m p.0 in let r = eqb-true j i p.1 in cc

abbrev pub share : Limit → Limit → ℕ → ℕ
share k l x = cond (same k l) x 0

pub share_cases : (k l : Limit) (x : ℕ) → (share k l x ≡ 0) ⊎ ((k ≡ l) × (share k l x ≡ x))
share_cases k l x = elim (cases_Bool (same k l)) [ inl e ↦ inr (same_is k l e, rw e refl) | inr e ↦ inl (rw e refl) ]

pub share_none : (k l : Limit) → share k l 0 ≡ 0
share_none k l = none_either (same k l)

pub share_parts : (k l : Limit) (x y z : ℕ) → x + y ≤ z → share k l x + share k l y ≤ share k l z
share_parts k l x y z h = elim (same k l) as (λ v. cond v x 0 + cond v y 0 ≤ cond v z 0) [ true ↦ h | false ↦ omega arith ]

pub share_rises : (k l : Limit) (x y : ℕ) → x ≤ y → share k l x ≤ share k l y
share_rises k l x y h = omega (arith, share_parts k l x 0 y (omega arith))

-- ---- orders, contracts and entries by shares

both : (p q : Bool) (x : ℕ) → cond p (cond q x 0) 0 ≡ cond (p && q) x 0
both true q x = refl
both false q x = refl

-- an order holds of its member's position register or of his goods register for its instrument
pub order_shares : (b : Ledger) (l : Limit) (o : LiveOrder) →
    order_on b l o ≡ share (position_of o.order.member) l (order_money b.charge (row_at b o.order.instrument) o) + share (goods_of o.order.member o.order.instrument) l (order_goods (row_at b o.order.instrument) o)
order_shares b (position_of m) o = omega arith
order_shares b (clearing_of m) o = refl
order_shares b (goods_of m i) o = omega (arith, both (eqb o.order.member m) (eqb o.order.instrument i) (order_goods (row_at b o.order.instrument) o))

-- a contract holds of both position registers, of the buyer's clearing register, and of the seller's goods register
pub contract_shares : (b : Ledger) (l : Limit) (k : Contract) → contract_on b l k
    ≡ (share (position_of k.buyer) l (buyer_charge b.charge (row_at b k.instrument) k) + share (position_of k.seller) l (seller_charge b.charge (row_at b k.instrument) k))
    + (share (clearing_of k.buyer) l (due k) + share (goods_of k.seller k.instrument) l (kilograms_held (row_at b k.instrument) k))
contract_shares b (position_of m) k = omega arith
contract_shares b (clearing_of m) k = omega arith
contract_shares b (goods_of m i) k = omega (arith, both (eqb k.seller m) (eqb k.instrument i) (kilograms_held (row_at b k.instrument) k))

-- what entries take from a register, and bring to it
abbrev pub taken_from : Limit → Entries → ℕ
taken_from (position_of m) e = takes_out (position_register m) e.money
taken_from (clearing_of m) e = takes_out (clearing_register m) e.money
taken_from (goods_of m i) e = takes_out (goods_register m i) e.goods

abbrev pub brought_to : Limit → Entries → ℕ
brought_to (position_of m) e = brings (position_register m) e.money
brought_to (clearing_of m) e = brings (clearing_register m) e.money
brought_to (goods_of m i) e = brings (goods_register m i) e.goods

-- an entry, or none, takes so much from one register, and nothing from any other
abbrev pub Takes : Option Entry → ℕ → ℕ → Type 0
Takes e g x = (r : ℕ) → takes_out r e ≡ cond (eqb g r) x 0

-- entries that take nothing
pub untaken : (e : Entries) → ((r : ℕ) → takes_out r e.money ≡ 0) → ((r : ℕ) → takes_out r e.goods ≡ 0) → (l : Limit) → taken_from l e ≡ 0
untaken e f g (position_of m) = f (position_register m)
untaken e f g (clearing_of m) = f (clearing_register m)
untaken e f g (goods_of m i) = g (goods_register m i)

pub takes_none : (g : ℕ) → Takes None g 0
takes_none g r = sym (none_either (eqb g r))

even : (n m : ℕ) → eqb (2 * n) (2 * m) ≡ eqb n m
even n m = grind (arith, nat_tests)

odd : (n m : ℕ) → eqb (2 * n + 1) (2 * m + 1) ≡ eqb n m
odd n m = grind (arith, nat_tests)

sixteenth : (n j m i : ℕ) → j ≤ 15 → i ≤ 15 → eqb (16 * n + j) (16 * m + i) ≡ (eqb n m && eqb j i)
sixteenth n j m i low high =
    elim (cases_Bool (eqb n m)) [
      | inl p ↦ let e : n ≡ m = eqb-true n m p in elim (cases_Bool (eqb j i)) [
        | inl q ↦ let d : j ≡ i = eqb-true j i q in rw (p, q, eq-eqb (16 * n + j) (16 * m + i) (omega arith)) refl
        | inr q ↦ let d = eqb-false j i q in rw (p, q, ne_eqb (16 * n + j) (16 * m + i) (λ y. d (omega arith))) refl
      ]
      | inr p ↦ let d = eqb-false n m p in rw (p, ne_eqb (16 * n + j) (16 * m + i) (λ y. d (omega arith))) refl
    ]

money_shares : (e : Option Entry) (n : ℕ) (p : Account) (x m : ℕ) → Takes e (money_register n p) x →
    (takes_out (position_register m) e ≡ share (money_of n p) (position_of m) x) × (takes_out (clearing_register m) e ≡ share (money_of n p) (clearing_of m) x)
money_shares e n Position x m h = (h (2 * m) ∙ ap (λ v. cond v x 0) (even n m), h (2 * m + 1) ∙ rw (ne_eqb (2 * n) (2 * m + 1) (omega arith)) refl)
money_shares e n Clearing x m h = (h (2 * m) ∙ rw (ne_eqb (2 * n + 1) (2 * m) (omega arith)) refl, h (2 * m + 1) ∙ ap (λ v. cond v x 0) (odd n m))

no_share : (n : ℕ) (p : Account) (m i x : ℕ) → share (money_of n p) (goods_of m i) x ≡ 0
no_share n Position m i x = refl
no_share n Clearing m i x = refl

-- what entries take, by the two registers that they take from
pub taken_shares : (e : Entries) (n : ℕ) (p : Account) (x s j y : ℕ) → Takes e.money (money_register n p) x → Takes e.goods (goods_register s j) y → j ≤ 15 →
    (l : Limit) → Proper l → taken_from l e ≡ share (money_of n p) l x + share (goods_of s j) l y
taken_shares e n p x s j y f g low (position_of m) ok = omega (arith, (money_shares e.money n p x m f).0)
taken_shares e n p x s j y f g low (clearing_of m) ok = omega (arith, (money_shares e.money n p x m f).1)
taken_shares e n p x s j y f g low (goods_of m i) ok = omega (arith, g (16 * m + i) ∙ ap (λ v. cond v y 0) (sixteenth s j m i low ok), no_share n p m i x)
