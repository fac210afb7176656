-- A trade: what its two orders give up, its contract takes over. The charge's law is all that is used of charges.
use Rattle.std.proofs.Common.{◌≡◌, ℕ, ◌+◌, ◌-◌, ◌*◌, ◌≤◌, true, false, cond, ◌||◌, eqb, map, refl, ap, ◌∙◌, subst, inl, inr, add-mul, arith}
use Rattle.std.specs.List.{AllByRecursion as All}
use Rattle.std.proofs.lemmas.List.Sums.{sum_by_push}
use Rattle.std.proofs.ByRecursion.{All-weaker}
use Rattle.std.proofs.lemmas.Bool.{cases_Bool, eq-eqb, or_left, or_right, both_ways}
use Rattle.charge.specs.Charges.{Charge, Fair}
use Rattle.rules.specs.declared.rows.Kind.{Kind}
use Rattle.rules.specs.declared.rows.Kind.TheVariants.{Warehouse, Shipment}
use Rattle.rules.specs.declared.rows.Row.{Row}
use Rattle.rules.specs.declared.orders.Side.{Side}
use Rattle.rules.specs.declared.orders.Side.TheVariants.{Buy, Sell}
use Rattle.rules.specs.declared.orders.LiveOrder.{LiveOrder}
use Rattle.rules.specs.declared.contracts.Trade.{Trade}
use Rattle.rules.specs.declared.calls.Call.TheVariants.{Execute}
use Rattle.rules.specs.Terms.{warehoused}
use Rattle.rules.specs.Holds.{holds_goods, order_money, order_goods, buyer_charge, seller_charge, kilograms_held}
use Rattle.rules.specs.Limits.{Ledger, row_at, order_live, order_at, no_live_order}
use Rattle.rules.specs.Orders.{is_buy, at_rest, lowered_by, has_rest, contract_of}
use Rattle.rules.specs.Entries.{entries}
use Rattle.law.proofs.Lists.{found_has, sum_kept, Falls, sum_lowered_two}
use Rattle.law.proofs.Holding.{Limit, position_of, clearing_of, goods_of, order_on, contract_on, share, share_none, share_parts, share_rises, order_shares, contract_shares, untaken}
use Rattle.law.proofs.Passing.{TradePassed}
use Rattle.law.proofs.Backing.{Backed, untaken_backs}

-- rests are within the lots that the charge's law speaks of
abbrev pub Small : LiveOrder → Type 0
Small o = o.rest ≤ 10000

-- ---- an order in two parts

fair_parts : (charge : Charge) → Fair charge → (rate price part whole : ℕ) → part ≤ whole → whole ≤ 10000 → charge rate price (whole - part) + charge rate price part ≤ charge rate price whole
fair_parts charge fair rate price part whole l h =
    let e : (whole - part) + part ≡ whole = omega arith in
    subst (λ x. charge rate price (whole - part) + charge rate price part ≤ charge rate price x) e (fair.splits rate price (whole - part) part (omega arith))

money_parts : (charge : Charge) → Fair charge → (r : Row) (o : LiveOrder) (lots : ℕ) → lots ≤ o.rest → Small o →
    order_money charge r (at_rest o (o.rest - lots)) + order_money charge r (at_rest o lots) ≤ order_money charge r o
money_parts charge fair r o lots l h =
    elim (holds_goods r.kind o.order.side) as (λ v. cond v 0 (charge r.rate o.order.price (o.rest - lots)) + cond v 0 (charge r.rate o.order.price lots) ≤ cond v 0 (charge r.rate o.order.price o.rest)) [
      | true ↦ omega arith
      | false ↦ fair_parts charge fair r.rate o.order.price lots o.rest l h
    ]

goods_parts : (r : Row) (o : LiveOrder) (lots : ℕ) → lots ≤ o.rest → order_goods r (at_rest o (o.rest - lots)) + order_goods r (at_rest o lots) ≤ order_goods r o
goods_parts r o lots l =
    let e : o.rest ≡ (o.rest - lots) + lots = omega arith in
    let s : o.rest * r.weight ≡ (o.rest - lots) * r.weight + lots * r.weight = ap (λ x. x * r.weight) e ∙ add-mul (o.rest - lots) lots r.weight in
    elim (holds_goods r.kind o.order.side) as (λ v. cond v ((o.rest - lots) * r.weight) 0 + cond v (lots * r.weight) 0 ≤ cond v (o.rest * r.weight) 0) [
      | true ↦ omega arith
      | false ↦ omega arith
    ]

-- the rest and the part that is filled hold no more than the order did
order_parts : (b : Ledger) → Fair b.charge → (l : Limit) (o : LiveOrder) (lots : ℕ) → lots ≤ o.rest → Small o → order_on b l (at_rest o (o.rest - lots)) + order_on b l (at_rest o lots) ≤ order_on b l o
order_parts b fair l o lots few small =
    let r = row_at b o.order.instrument in
    let p = position_of o.order.member in
    let g = goods_of o.order.member o.order.instrument in
    let rest = at_rest o (o.rest - lots) in
    let part = at_rest o lots in
    omega (
      arith,
      order_shares b l o,
      order_shares b l rest,
      order_shares b l part,
      share_parts p l (order_money b.charge r rest) (order_money b.charge r part) (order_money b.charge r o) (money_parts b.charge fair r o lots few small),
      share_parts g l (order_goods r rest) (order_goods r part) (order_goods r o) (goods_parts r o lots few),
    )

lowered_falls : (b : Ledger) → Fair b.charge → (t : Trade) (l : Limit) (o : LiveOrder) → Small o → order_on b l (lowered_by t o) ≤ order_on b l o
lowered_falls b fair t l o small =
    elim (cases_Bool (eqb o.order.number t.buy || eqb o.order.number t.sell)) [
      | inl e ↦ let fill : ℕ = o.rest - (o.rest - t.lots) in
          let same : o.rest - fill ≡ o.rest - t.lots = omega arith in
          let parts = order_parts b fair l o fill (omega arith) small in
          rw e (omega (arith, rw same at parts))
      | inr e ↦ rw e (omega arith)
    ]

-- ---- the contract takes over the parts of both orders

buy_holds : (kind : Kind) (side : Side) → is_buy side ≡ true → holds_goods kind side ≡ false
buy_holds Warehouse Buy h = refl
buy_holds Shipment Buy h = refl
buy_holds Warehouse Sell h = let z : ◌≡◌ {A = ℕ} 0 1 = cc in absurd (omega arith)
buy_holds Shipment Sell h = let z : ◌≡◌ {A = ℕ} 0 1 = cc in absurd (omega arith)

sell_holds : (kind : Kind) (side : Side) → is_buy side ≡ false → holds_goods kind side ≡ warehoused kind
sell_holds Warehouse Sell h = refl
sell_holds Shipment Sell h = refl
sell_holds Warehouse Buy h = let z : ◌≡◌ {A = ℕ} 0 1 = cc in absurd (omega arith)
sell_holds Shipment Buy h = let z : ◌≡◌ {A = ℕ} 0 1 = cc in absurd (omega arith)

takes_over : (b : Ledger) (t : Trade) (l : Limit) → TradePassed b t →
    contract_on b l (contract_of b t) ≤ order_on b l (at_rest (order_at b t.buy) t.lots) + order_on b l (at_rest (order_at b t.sell) t.lots)
takes_over b t l a =
    let k = contract_of b t in
    let r = row_at b k.instrument in
    let buy = at_rest (order_at b t.buy) t.lots in
    let sell = at_rest (order_at b t.sell) t.lots in
    let rs = row_at b sell.order.instrument in
    let row : r ≡ rs = ap (row_at b) a.instrument in
    let goes : holds_goods r.kind sell.order.side ≡ warehoused r.kind = sell_holds r.kind sell.order.side a.sells in
    let bought : buyer_charge b.charge r k ≤ order_money b.charge r buy = rw (buy_holds r.kind buy.order.side a.buys) (omega arith) in
    let sold : seller_charge b.charge r k ≤ order_money b.charge rs sell = subst (λ x. seller_charge b.charge r k ≤ order_money b.charge x sell) row (rw goes (omega arith)) in
    let weight : kilograms_held r k ≤ order_goods rs sell =
    subst (λ x. kilograms_held r k ≤ order_goods x sell) row (rw goes (elim (warehoused r.kind) as (λ v. cond v (t.lots * r.weight - 0) 0 ≤ cond v (t.lots * r.weight) 0) [ true ↦ omega arith | false ↦ omega arith ])) in
    let goods = ap (λ i. share (goods_of k.seller i) l (kilograms_held r k)) a.instrument in
    omega (
      arith,
      contract_shares b l k,
      order_shares b l buy,
      order_shares b l sell,
      share_rises (position_of k.buyer) l (buyer_charge b.charge r k) (order_money b.charge r buy) bought,
      share_rises (position_of k.seller) l (seller_charge b.charge r k) (order_money b.charge rs sell) sold,
      share_none (clearing_of k.buyer) l,
      goods,
      share_rises (goods_of k.seller sell.order.instrument) l (kilograms_held r k) (order_goods rs sell) weight,
    )

-- ---- the two orders are live and different

found_order : (b : Ledger) (n : ℕ) → order_live b n ≡ true → All Small b.section.orders → Small (order_at b n) × ((order_at b n).order.number ≡ n)
found_order b n live small = found_has (λ (o : LiveOrder). o.order.number) Small n b.section.orders no_live_order live small

pub trade_backs : (b : Ledger) → Fair b.charge → (t : Trade) (l : Limit) → TradePassed b t → All Small b.section.orders → Backed b (Execute t) l
trade_backs b fair t l a small =
    let number = λ (o : LiveOrder). o.order.number in
    let buy = order_at b t.buy in
    let sell = order_at b t.sell in
    let fb = found_order b t.buy a.buy_live small in
    let fs = found_order b t.sell a.sell_live small in
    let apart : t.buy ≡ t.sell → ⊥ = λ e. both_ways (is_buy sell.order.side) a.sells (subst (λ n. is_buy (order_at b n).order.side ≡ true) e a.buys) in
    let here : lowered_by t buy ≡ at_rest buy (buy.rest - t.lots) = rw (or_left (eqb buy.order.number t.buy) (eqb buy.order.number t.sell) (eq-eqb buy.order.number t.buy fb.1)) refl in
    let there : lowered_by t sell ≡ at_rest sell (sell.rest - t.lots) = rw (or_right (eqb sell.order.number t.buy) (eqb sell.order.number t.sell) (eq-eqb sell.order.number t.sell fs.1)) refl in
    let falls : Falls (order_on b l) (lowered_by t) b.section.orders = All-weaker Small (λ o. order_on b l (lowered_by t o) ≤ order_on b l o) (lowered_falls b fair t l) b.section.orders small in
    untaken_backs b (Execute t) l (untaken (entries b (Execute t)) (λ r. refl) (λ r. refl) l) (omega (
      arith,
      sum_kept (order_on b l) has_rest (map (lowered_by t) b.section.orders),
      sum_lowered_two number (order_on b l) t.buy t.sell (lowered_by t) b.section.orders no_live_order apart falls a.buy_live a.sell_live,
      ap (order_on b l) here,
      ap (order_on b l) there,
      order_parts b fair l buy t.lots a.buy_rest fb.0,
      order_parts b fair l sell t.lots a.sell_rest fs.0,
      sum_by_push (contract_on b l) b.section.contracts (contract_of b t),
      takes_over b t l a,
    ))
