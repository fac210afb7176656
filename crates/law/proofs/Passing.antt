-- What each call's checks give, by name. Here alone the table of checks is read in its sequence.
use Rattle.std.proofs.Common.{◌≡◌, ℕ, ◌+◌, ◌<◌, ◌≤◌, Bool, true, false, cond, not, ◌&&◌, eqb, ltb, leb, List, length, pos, ◌-ℤ◌, arith}
use lib.Signed.{lt_z}
use Rattle.std.specs.List.{AllByRecursion as All}
use Rattle.std.proofs.lemmas.Int.{ints}
use Rattle.std.proofs.lemmas.Bool.{and_parts, not-false, not-true, leb-true, leb-false, ltb-false, eqb-true, eqb-false}
use Rattle.rules.specs.declared.orders.Order.{Order}
use Rattle.rules.specs.declared.contracts.Trade.{Trade}
use Rattle.rules.specs.declared.contracts.Event.{Event}
use Rattle.rules.specs.declared.contracts.Event.TheVariants.{Funding, Delivery, Default}
use Rattle.rules.specs.declared.calls.Account.{Account}
use Rattle.rules.specs.declared.calls.Account.TheVariants.{Position, Clearing}
use Rattle.rules.specs.declared.calls.Call.{Call}
use Rattle.rules.specs.declared.calls.Call.TheVariants.{Deposit, Withdraw, Shift, DepositGoods, WithdrawGoods, Place, Cancel, Execute, Rerate, EndTrading, Settle, EndSession}
use Rattle.rules.specs.Terms.{good_amount, good_report, good_price, good_lots, good_last, warehoused}
use Rattle.rules.specs.Holds.{is_funded, value}
use Rattle.rules.specs.Limits.{Ledger, known, has_row, row_at, order_live, order_at, contract_live, contract_at, contract_row, free_money, free_position, free_goods, clearing, clearing_holds, position, position_holds, stock, goods_holds}
use Rattle.rules.specs.Orders.{is_in_goods, order_hold, is_before, is_buy, matching, fills}
use Rattle.rules.specs.Checks.{Check, checks, most_live}
use Rattle.law.proofs.Holding.{Limit, position_of, clearing_of, goods_of, money_of, Free, clearing_held}

-- ---- the records

pub record DepositPassed (b : Ledger) (m a : ℕ) : Type 0 where
  pub member : known b m ≡ true
  pub amount : good_amount a ≡ true

-- a withdrawal, or a shift from the account
pub record TakingPassed (b : Ledger) (m : ℕ) (p : Account) (a : ℕ) : Type 0 where
  pub member : known b m ≡ true
  pub amount : good_amount a ≡ true
  pub free : Free b (money_of m p) a

pub record GoodsDepositPassed (b : Ledger) (m i kg : ℕ) : Type 0 where
  pub member : known b m ≡ true
  pub row : has_row b i ≡ true
  pub kind : warehoused (row_at b i).kind ≡ true
  pub amount : good_amount kg ≡ true

pub record GoodsTakingPassed (b : Ledger) (m i kg : ℕ) : Type 0 where
  pub member : known b m ≡ true
  pub row : has_row b i ≡ true
  pub kind : warehoused (row_at b i).kind ≡ true
  pub amount : good_amount kg ≡ true
  pub free : Free b (goods_of m i) kg

-- the register that an order takes its hold of
abbrev pub limit_of : Ledger → Order → Limit
limit_of b o = cond (is_in_goods b o) (goods_of o.member o.instrument) (position_of o.member)

pub record OrderPassed (b : Ledger) (o : Order) : Type 0 where
  pub member : known b o.member ≡ true
  pub row : has_row b o.instrument ≡ true
  pub price : good_price o.price ≡ true
  pub lots : good_lots o.lots ≡ true
  pub last : good_last o.last ≡ true
  pub today : is_before o.last b.section.day ≡ false
  pub number : b.section.last_order < o.number
  pub room : length b.section.orders < most_live
  pub free : Free b (limit_of b o) (order_hold b o)

pub record CancelPassed (b : Ledger) (n : ℕ) : Type 0 where
  pub live : order_live b n ≡ true

pub record TradePassed (b : Ledger) (t : Trade) : Type 0 where
  pub buy_live : order_live b t.buy ≡ true
  pub sell_live : order_live b t.sell ≡ true
  pub buys : is_buy (order_at b t.buy).order.side ≡ true
  pub sells : is_buy (order_at b t.sell).order.side ≡ false
  pub instrument : (order_at b t.buy).order.instrument ≡ (order_at b t.sell).order.instrument
  pub members : (order_at b t.buy).order.member ≡ (order_at b t.sell).order.member → ⊥
  pub lowest : (order_at b t.sell).order.price ≤ t.price
  pub highest : t.price ≤ (order_at b t.buy).order.price
  pub some : 1 ≤ t.lots
  pub buy_rest : t.lots ≤ (order_at b t.buy).rest
  pub sell_rest : t.lots ≤ (order_at b t.sell).rest
  pub number : b.section.last_contract < t.contract
  pub room : length b.section.contracts < most_live

pub record RatingPassed (b : Ledger) (i rate : ℕ) : Type 0 where
  pub row : has_row b i ≡ true
  pub allowed : rate ≤ b.top

pub record FundingPassed (b : Ledger) (n : ℕ) : Type 0 where
  pub live : contract_live b n ≡ true
  pub unfunded : is_funded (contract_at b n).state ≡ false
  pub day : b.section.day ≤ (contract_at b n).funding
  pub free : Free b (clearing_of (contract_at b n).buyer) (value (contract_at b n))

pub record DeliveryPassed (b : Ledger) (n kg : ℕ) : Type 0 where
  pub live : contract_live b n ≡ true
  pub funded : is_funded (contract_at b n).state ≡ true
  pub report : good_report kg ≡ true
  pub day : (not (warehoused (contract_row b n).kind) && ltb ((contract_at b n).delivery + 4) b.section.day) ≡ false

pub record DefaultPassed (b : Ledger) (n : ℕ) : Type 0 where
  pub live : contract_live b n ≡ true
  pub buyer_late : (not (is_funded (contract_at b n).state) && leb b.section.day (contract_at b n).funding) ≡ false
  pub ships : (is_funded (contract_at b n).state && warehoused (contract_row b n).kind) ≡ false
  pub seller_late : (is_funded (contract_at b n).state && ltb b.section.day ((contract_at b n).delivery + 5)) ≡ false

abbrev pub EventPassed : Ledger → ℕ → Event → Type 0
EventPassed b n Funding = FundingPassed b n
EventPassed b n (Delivery kg) = DeliveryPassed b n kg
EventPassed b n Default = DefaultPassed b n

abbrev pub Passed : Ledger → Call → Type 0
Passed b (Deposit m p a) = DepositPassed b m a
Passed b (Withdraw m p a) = TakingPassed b m p a
Passed b (Shift m p a) = TakingPassed b m p a
Passed b (DepositGoods m i kg) = GoodsDepositPassed b m i kg
Passed b (WithdrawGoods m i kg) = GoodsTakingPassed b m i kg
Passed b (Place o) = OrderPassed b o
Passed b (Cancel n) = CancelPassed b n
Passed b (Execute t) = TradePassed b t
Passed b (Rerate i rate) = RatingPassed b i rate
Passed b EndTrading = Unit {0}
Passed b (Settle n e) = EventPassed b n e
Passed b EndSession = Unit {0}

-- ---- from the checks

abbrev pub AllFalse : List Check → Type 0
AllFalse cs = All (λ c. c.0 ≡ false) cs

free_from : (amount held x : ℕ) → lt_z (pos amount -ℤ pos held) (pos x) ≡ false → held + x ≤ amount
free_from amount held x h = grind (arith, ints)

free_money_from : (b : Ledger) (m : ℕ) (p : Account) (a : ℕ) → lt_z (free_money b m p) (pos a) ≡ false → Free b (money_of m p) a
free_money_from b m Position a h = free_from (position b m) (position_holds b m) a h
free_money_from b m Clearing a h = omega (arith, clearing_held b m, free_from (clearing b m) (clearing_holds b m) a h)

free_goods_from : (b : Ledger) (m i kg : ℕ) → lt_z (free_goods b m i) (pos kg) ≡ false → Free b (goods_of m i) kg
free_goods_from b m i kg h = free_from (stock b m i) (goods_holds b m i) kg h

free_order_from : (b : Ledger) (m i x : ℕ) (v : Bool) → lt_z (cond v (free_goods b m i) (free_position b m)) (pos x) ≡ false → Free b (cond v (goods_of m i) (position_of m)) x
free_order_from b m i x true h = free_goods_from b m i x h
free_order_from b m i x false h = free_money_from b m Position x h

stored : (b : Ledger) (i : ℕ) → not (has_row b i && warehoused (row_at b i).kind) ≡ false → (has_row b i ≡ true) × (warehoused (row_at b i).kind ≡ true)
stored b i h = and_parts (has_row b i) (warehoused (row_at b i).kind) (not-false (has_row b i && warehoused (row_at b i).kind) h)

taking_passed : (b : Ledger) (m : ℕ) (p : Account) (a : ℕ) → AllFalse (checks b (Withdraw m p a)) → TakingPassed b m p a
taking_passed b m p a (member, (amount, (free, end))) =
    record { member = not-false (known b m) member; amount = not-false (good_amount a) amount; free = free_money_from b m p a free }

order_passed : (b : Ledger) (o : Order) → AllFalse (checks b (Place o)) → OrderPassed b o
order_passed b o (member, (row, (good, (today, (number, (room, (free, end))))))) =
    let price = and_parts (good_price o.price) (good_lots o.lots && good_last o.last) (not-false (good_price o.price && (good_lots o.lots && good_last o.last)) good) in
    let lots = and_parts (good_lots o.lots) (good_last o.last) price.1 in
    record {
      member = not-false (known b o.member) member;
      row = not-false (has_row b o.instrument) row;
      price = price.0;
      lots = lots.0;
      last = lots.1;
      today = today;
      number = leb-false o.number b.section.last_order number;
      room = leb-false most_live (length b.section.orders) room;
      free = free_order_from b o.member o.instrument (order_hold b o) (is_in_goods b o) free;
    }

-- what a buy and a sell that match have in common
record Matched (buy sell : Order) (price : ℕ) : Type 0 where
  pub buys : is_buy buy.side ≡ true
  pub sells : is_buy sell.side ≡ false
  pub instrument : buy.instrument ≡ sell.instrument
  pub members : buy.member ≡ sell.member → ⊥
  pub lowest : sell.price ≤ price
  pub highest : price ≤ buy.price

matched : (buy sell : Order) (price : ℕ) → matching buy sell price ≡ true → Matched buy sell price
matched buy sell price h =
    let side = and_parts (is_buy buy.side) _ h in
    let other = and_parts (not (is_buy sell.side)) _ side.1 in
    let row = and_parts (eqb buy.instrument sell.instrument) _ other.1 in
    let party = and_parts (not (eqb buy.member sell.member)) _ row.1 in
    let range = and_parts (leb sell.price price) (leb price buy.price) party.1 in
    record {
      buys = side.0;
      sells = not-true (is_buy sell.side) other.0;
      instrument = eqb-true buy.instrument sell.instrument row.0;
      members = eqb-false buy.member sell.member (not-true (eqb buy.member sell.member) party.0);
      lowest = leb-true sell.price price range.0;
      highest = leb-true price buy.price range.1;
    }

trade_passed : (b : Ledger) (t : Trade) → AllFalse (checks b (Execute t)) → TradePassed b t
trade_passed b t (live, (match, (fill, (number, (room, end))))) =
    let buy = order_at b t.buy in
    let sell = order_at b t.sell in
    let both = and_parts (order_live b t.buy) (order_live b t.sell) (not-false (order_live b t.buy && order_live b t.sell) live) in
    let m = matched buy.order sell.order t.price (not-false (matching buy.order sell.order t.price) match) in
    let lots = and_parts (leb 1 t.lots) (leb t.lots buy.rest && leb t.lots sell.rest) (not-false (fills t.lots buy sell) fill) in
    let rests = and_parts (leb t.lots buy.rest) (leb t.lots sell.rest) lots.1 in
    record {
      buy_live = both.0;
      sell_live = both.1;
      buys = m.buys;
      sells = m.sells;
      instrument = m.instrument;
      members = m.members;
      lowest = m.lowest;
      highest = m.highest;
      some = leb-true 1 t.lots lots.0;
      buy_rest = leb-true t.lots buy.rest rests.0;
      sell_rest = leb-true t.lots sell.rest rests.1;
      number = leb-false t.contract b.section.last_contract number;
      room = leb-false most_live (length b.section.contracts) room;
    }

event_passed : (b : Ledger) (n : ℕ) (e : Event) → AllFalse (checks b (Settle n e)) → EventPassed b n e
event_passed b n Funding (live, (unfunded, (day, (free, end)))) =
    record {
      live = not-false (contract_live b n) live;
      unfunded = unfunded;
      day = ltb-false (contract_at b n).funding b.section.day day;
      free = free_money_from b (contract_at b n).buyer Clearing (value (contract_at b n)) free;
    }
event_passed b n (Delivery kg) (live, (funded, (report, (day, end)))) =
    record { live = not-false (contract_live b n) live; funded = not-false (is_funded (contract_at b n).state) funded; report = not-false (good_report kg) report; day = day }
event_passed b n Default (live, (buyer_late, (ships, (seller_late, end)))) =
    record { live = not-false (contract_live b n) live; buyer_late = buyer_late; ships = ships; seller_late = seller_late }

pub passed : (b : Ledger) (c : Call) → AllFalse (checks b c) → Passed b c
passed b (Deposit m p a) (member, (amount, end)) = record { member = not-false (known b m) member; amount = not-false (good_amount a) amount }
passed b (Withdraw m p a) h = taking_passed b m p a h
passed b (Shift m p a) h = taking_passed b m p a h
passed b (DepositGoods m i kg) (member, (kind, (amount, end))) =
    record { member = not-false (known b m) member; row = (stored b i kind).0; kind = (stored b i kind).1; amount = not-false (good_amount kg) amount }
passed b (WithdrawGoods m i kg) (member, (kind, (amount, (free, end)))) =
    record { member = not-false (known b m) member; row = (stored b i kind).0; kind = (stored b i kind).1; amount = not-false (good_amount kg) amount; free = free_goods_from b m i kg free }
passed b (Place o) h = order_passed b o h
passed b (Cancel n) (live, end) = record { live = not-false (order_live b n) live }
passed b (Execute t) h = trade_passed b t h
passed b (Rerate i rate) (row, (top, end)) = record { row = not-false (has_row b i) row; allowed = ltb-false b.top rate top }
passed b EndTrading h = tt
passed b (Settle n e) h = event_passed b n e h
passed b EndSession h = tt
