-- Events: what a contract gives up of its holds covers what its event takes, or it was free.
use Rattle.std.proofs.Common.{◌≡◌, ℕ, ◌+◌, ◌-◌, ◌≤◌, Bool, true, false, cond, is_some, Some, None, sum_by, Option, unwrap_or, sym, refl, ap, ◌∙◌, inl, inr, arith}
use Rattle.std.specs.List.{AllByRecursion as All}
use Rattle.std.proofs.lemmas.Bool.{cases_Bool}
use Rattle.rules.specs.declared.rows.Row.{Row}
use Rattle.rules.specs.declared.contracts.State.{State}
use Rattle.rules.specs.declared.contracts.State.TheVariants.{Funded}
use Rattle.rules.specs.declared.contracts.Contract.{Contract}
use Rattle.rules.specs.declared.contracts.Event.{Event}
use Rattle.rules.specs.declared.contracts.Event.TheVariants.{Funding, Delivery, Default}
use Rattle.rules.specs.declared.calls.Account.TheVariants.{Position, Clearing}
use Rattle.rules.specs.declared.calls.Call.TheVariants.{Settle}
use Rattle.rules.specs.Terms.{found_row, warehoused, position_register, clearing_register, goods_register}
use Rattle.rules.specs.Holds.{is_funded, delivered, payments, value, due, full_weight, fully_delivered, kilograms_held}
use Rattle.rules.specs.Limits.{Ledger, row_at, no_row, no_contract, contract_live, contract_at, contract_row, position}
use Rattle.rules.specs.Settling.{counted, delivered_after, payment, failing, injured, penalty, penalty_paid, event_state}
use Rattle.rules.specs.Entries.{entries}
use Rattle.rules.specs.Effects.{with_state, settled}
use Rattle.law.proofs.Lists.{Distinct, sum_without, sum-changed}
use Rattle.law.proofs.Rows.{Low, low_row}
use Rattle.law.proofs.Entering.{transfer_takes}
use Rattle.law.proofs.Holding.{Limit, position_of, clearing_of, goods_of, Proper, contract_on, share, share_none, share_parts, share_rises, contract_shares, taken_from, untaken, Takes, takes_none, taken_shares}
use Rattle.law.proofs.Passing.{FundingPassed, DeliveryPassed, DefaultPassed}
use Rattle.law.proofs.TiedEvents.{Pays, unfunded}
use Rattle.law.proofs.Backing.{Backed, free_backs}

abbrev pub number_of : Contract → ℕ
number_of k = k.trade.contract

-- what a contract holds in its next state, if it has one
abbrev left_of : (Contract → ℕ) → Option State → Contract → ℕ
left_of f None k = 0
left_of f (Some s) k = f (with_state s k)

-- of all that contracts hold, an event changes what its one contract holds
settled_sum : (f : Contract → ℕ) (b : Ledger) (n : ℕ) (next : Option State) → contract_live b n ≡ true → Distinct number_of b.section.contracts →
    sum_by f (settled n next b.section.contracts) + f (contract_at b n) ≡ sum_by f b.section.contracts + left_of f next (contract_at b n)
settled_sum f b n None live apart = omega (arith, sum_without number_of f n b.section.contracts no_contract apart live)
settled_sum f b n (Some s) live apart = sum-changed number_of f n (with_state s) b.section.contracts no_contract apart live

-- a contract that ends holds no more than one that goes on
ended_or_less : (f : Contract → ℕ) (v : Bool) (s : State) (k : Contract) → left_of f (cond v None (Some s)) k ≤ f (with_state s k)
ended_or_less f true s k = omega arith
ended_or_less f false s k = omega arith

-- what is taken was held by the contract, and is held no more
given_up : (b : Ledger) (n : ℕ) (e : Event) (l : Limit) → contract_live b n ≡ true → Distinct number_of b.section.contracts →
    left_of (contract_on b l) (event_state (contract_row b n) (contract_at b n) e) (contract_at b n) + taken_from l (entries b (Settle n e)) ≤ contract_on b l (contract_at b n) → Backed b (Settle n e) l
given_up b n e l live apart h = inl (omega (arith, settled_sum (contract_on b l) b n (event_state (contract_row b n) (contract_at b n) e) live apart))

-- ---- funding: the due is free

pub funding_backs : (b : Ledger) (n : ℕ) (l : Limit) → FundingPassed b n → Distinct number_of b.section.contracts → Backed b (Settle n Funding) l
funding_backs b n l a apart =
    let k = contract_at b n in
    let r = contract_row b n in
    let next = with_state (Funded 0 0) k in
    let none = unfunded k.state a.unfunded in
    let weight : kilograms_held r next ≤ kilograms_held r k = rw none.kilograms (omega arith) in
    free_backs b (Settle n Funding) (clearing_of k.buyer) (value k) l a.free (omega (
      arith,
      untaken (entries b (Settle n Funding)) (λ r. refl) (λ r. refl) l,
      settled_sum (contract_on b l) b n (Some (Funded 0 0)) a.live apart,
      contract_shares b l k,
      contract_shares b l next,
      share_none (position_of k.buyer) l,
      share_rises (clearing_of k.buyer) l (due next) (value k) (omega arith),
      share_rises (goods_of k.seller k.instrument) l (kilograms_held r next) (kilograms_held r k) weight,
    ))

-- ---- delivery: what is paid was due, and what is delivered was held

-- an instrument whose goods are kept here has a row
kept_here : (r : Option Row) → warehoused (unwrap_or r no_row).kind ≡ true → is_some r ≡ true
kept_here None h = let z : ◌≡◌ {A = ℕ} 0 1 = cc in absurd (omega arith)
kept_here (Some r) h = refl

delivery_takes : (b : Ledger) (n kg : ℕ) (l : Limit) → Proper l → All Low b.section.rows →
    taken_from l (entries b (Settle n (Delivery kg)))
    ≡ share (clearing_of (contract_at b n).buyer) l (payment (contract_row b n) (contract_at b n) kg)
    + share (goods_of (contract_at b n).seller (contract_at b n).instrument) l (cond (warehoused (contract_row b n).kind) (counted (contract_row b n) (contract_at b n) kg) 0)
delivery_takes b n kg l ok low =
    let k = contract_at b n in
    let r = contract_row b n in
    let e = entries b (Settle n (Delivery kg)) in
    let money = transfer_takes (clearing_register k.buyer) (clearing_register k.seller) (payment r k kg) in
    elim (cases_Bool (warehoused r.kind)) [
      | inl w ↦
          let goods : Takes e.goods (goods_register k.seller k.instrument) (counted r k kg) = λ i. rw w (transfer_takes (goods_register k.seller k.instrument) (goods_register k.buyer k.instrument) (counted r k kg) i) in
          let here : k.instrument ≤ 15 = low_row b.section.rows k.instrument low (kept_here (found_row k.instrument b.section.rows) w) in
          taken_shares e k.buyer Clearing (payment r k kg) k.seller k.instrument (counted r k kg) money goods here l ok
          ∙ ap (λ v. share (clearing_of k.buyer) l (payment r k kg) + share (goods_of k.seller k.instrument) l (cond v (counted r k kg) 0)) (sym w)
      | inr w ↦
          let goods : Takes e.goods 0 0 = λ i. rw w (takes_none 0 i) in
          let nothing : share (goods_of k.seller k.instrument) l (cond (warehoused r.kind) (counted r k kg) 0) ≡ 0 = ap (λ v. share (goods_of k.seller k.instrument) l (cond v (counted r k kg) 0)) w ∙ share_none (goods_of k.seller k.instrument) l in
          omega (arith, taken_shares e k.buyer Clearing (payment r k kg) 0 0 0 money goods (omega arith) l ok, nothing, share_none (goods_of 0 0) l)
    ]

pub delivery_backs : (b : Ledger) (n kg : ℕ) (l : Limit) → Proper l → DeliveryPassed b n kg → Pays (contract_row b n) (contract_at b n) kg → All Low b.section.rows → Distinct number_of b.section.contracts → Backed b (Settle n (Delivery kg)) l
delivery_backs b n kg l ok a pays low apart =
    let k = contract_at b n in
    let r = contract_row b n in
    let state = Funded (delivered_after r k kg) (payments k.state + payment r k kg) in
    let next = with_state state k in
    let moved = cond (warehoused r.kind) (counted r k kg) 0 in
    let owes : due next + payment r k kg ≤ due k = rw a.funded (omega (arith, pays.owed)) in
    let open' : counted r k kg ≤ full_weight r k.trade.lots - delivered k.state = omega arith in
    let weight : kilograms_held r next + moved ≤ kilograms_held r k =
    elim (warehoused r.kind) as (λ v. cond v (full_weight r k.trade.lots - delivered_after r k kg) 0 + cond v (counted r k kg) 0 ≤ cond v (full_weight r k.trade.lots - delivered k.state) 0) [
      | true ↦ omega (arith, pays.within)
      | false ↦ omega arith
    ] in
    given_up b n (Delivery kg) l a.live apart (omega (
      arith,
      ended_or_less (contract_on b l) (fully_delivered r k.trade.lots (delivered_after r k kg)) state k,
      delivery_takes b n kg l ok low,
      contract_shares b l k,
      contract_shares b l next,
      share_none (position_of k.buyer) l,
      share_parts (clearing_of k.buyer) l (due next) (payment r k kg) (due k) owes,
      share_parts (goods_of k.seller k.instrument) l (kilograms_held r next) moved (kilograms_held r k) weight,
    ))

-- ---- default: what is paid is no more than the failing side's hold

penalty_held : (b : Ledger) (k : Contract) (l : Limit) → share (position_of (failing k)) l (penalty b.charge (row_at b k.instrument) k) ≤ contract_on b l k
penalty_held b k l =
    let h = contract_shares b l k in
    elim (cases_Bool (is_funded k.state)) [ inl e ↦ rw e (omega (arith, h)) | inr e ↦ rw e (omega (arith, rw e at h)) ]

pub default_backs : (b : Ledger) (n : ℕ) (l : Limit) → Proper l → DefaultPassed b n → Distinct number_of b.section.contracts → Backed b (Settle n Default) l
default_backs b n l ok a apart =
    let k = contract_at b n in
    let r = contract_row b n in
    let x = penalty_paid b.charge r (position b (failing k)) k in
    let money = transfer_takes (position_register (failing k)) (position_register (injured k)) x in
    given_up b n Default l a.live apart (omega (
      arith,
      taken_shares (entries b (Settle n Default)) (failing k) Position x 0 0 0 money (takes_none 0) (omega arith) l ok,
      share_none (goods_of 0 0) l,
      share_rises (position_of (failing k)) l x (penalty b.charge r k) (omega arith),
      penalty_held b k l,
    ))
