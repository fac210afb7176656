-- What ties the section to the accepted calls that led to it, and what one more call leaves of it.
use Rattle.std.proofs.Common.{◌≡◌, ℕ, ◌<◌, ◌≤◌, cond, ltb, List, [], ◌∷◌, ◌++◌, Some, None, count_by, Option, ◌∙◌, arith}
use Rattle.std.specs.List.{flat_map, AllByRecursion as All}
use Rattle.std.proofs.lemmas.List.Sums.{sum_by_push}
use Rattle.rules.specs.declared.rows.Row.{Row}
use Rattle.rules.specs.declared.orders.Order.{Order}
use Rattle.rules.specs.declared.orders.LiveOrder.{LiveOrder}
use Rattle.rules.specs.declared.contracts.Trade.{Trade}
use Rattle.rules.specs.declared.contracts.Contract.{Contract}
use Rattle.rules.specs.Terms.{found}
use Rattle.rules.specs.Holds.{is_funded, delivered, payments, payment_to_date, full_weight}
use Rattle.rules.specs.Limits.{Section, row_of}
use Rattle.rules.specs.History.{Done, placed, executed, event_on, is_funding, is_delivery, endings, kilograms_in, payments_in}
use Rattle.law.proofs.Lists.{joined_push, found_before}
use Rattle.law.proofs.Rows.{Alike}
use Rattle.law.proofs.Pushing.{endings_push}

-- the accepted order and the trade of a number, if there is one
abbrev pub ordered : List Done → ℕ → Option Order
ordered past n = found (λ o. o.number) n (flat_map (λ d. placed d.call) past)

abbrev pub traded : List Done → ℕ → Option Trade
traded past n = found (λ t. t.contract) n (flat_map (λ d. executed d.call) past)

abbrev pub fundings : List Done → ℕ → ℕ
fundings past n = count_by (λ d. is_funding (event_on n d.call)) past

-- nothing happened to a number
pub record Blank (rows : List Row) (past : List Done) (n : ℕ) : Type 0 where
  pub fundings : fundings past n ≡ 0
  pub kilograms : kilograms_in past n ≡ 0
  pub payments : payments_in past n ≡ 0
  pub endings : endings rows [] past n ≡ 0

-- the two accepted orders of a trade
pub record Sides (past : List Done) (t : Trade) : Type 0 where
  pub bought : Order
  pub sold : Order
  pub buys : ordered past t.buy ≡ Some bought
  pub sells : ordered past t.sell ≡ Some sold

-- a trade, whatever has become of it
pub record Deal (rows : List Row) (past : List Done) (n : ℕ) (t : Trade) : Type 0 where
  pub sides : Sides past t
  pub once : endings rows [] past n ≤ 1
  pub paid : payments_in past n ≡ payment_to_date (row_of rows sides.bought.instrument) t.price (kilograms_in past n)
  pub within : kilograms_in past n ≤ full_weight (row_of rows sides.bought.instrument) t.lots

-- a live contract
pub record Live (rows : List Row) (past : List Done) (k : Contract) : Type 0 where
  pub trade : traded past k.trade.contract ≡ Some k.trade
  pub sides : Sides past k.trade
  pub buyer : sides.bought.member ≡ k.buyer
  pub seller : sides.sold.member ≡ k.seller
  pub instrument : sides.bought.instrument ≡ k.instrument
  pub funded : ltb 0 (fundings past k.trade.contract) ≡ is_funded k.state
  pub kilograms : kilograms_in past k.trade.contract ≡ delivered k.state
  pub payments : payments_in past k.trade.contract ≡ payments k.state
  pub unended : endings rows [] past k.trade.contract ≡ 0

abbrev pub KnownOrder : List Done → LiveOrder → Type 0
KnownOrder past o = ordered past o.order.number ≡ Some o.order

-- the section beside the accepted calls: its rows are the opening's at other rates, what is live was accepted, and what was traded is paid as it was delivered
pub record Tie (rs : List Row) (past : List Done) (d : Section) : Type 0 where
  pub rows : (i : ℕ) → Alike (row_of d.rows i) (row_of rs i)
  pub orders : All (KnownOrder past) d.orders
  pub unordered : (n : ℕ) → d.last_order < n → ordered past n ≡ None
  pub contracts : All (Live rs past) d.contracts
  pub fresh : (n : ℕ) → d.last_contract < n → traded past n ≡ None
  pub untraded : (n : ℕ) → traded past n ≡ None → Blank rs past n
  pub deals : (n : ℕ) (t : Trade) → traded past n ≡ Some t → Deal rs past n t

-- what is unchanged of a number by one more accepted call
pub record Untouched (rows : List Row) (past next : List Done) (n : ℕ) : Type 0 where
  pub fundings : fundings next n ≡ fundings past n
  pub kilograms : kilograms_in next n ≡ kilograms_in past n
  pub payments : payments_in next n ≡ payments_in past n
  pub endings : endings rows [] next n ≡ endings rows [] past n

pub untouched : (rows : List Row) (past : List Done) (d : Done) (n : ℕ) → event_on n d.call ≡ None → Untouched rows past (past ++ d ∷ []) n
untouched rows past d n h =
    record {
      fundings = rw (sum_by_push (λ (x : Done). cond (is_funding (event_on n x.call)) 1 0) past d, h) (omega arith);
      kilograms = rw (sum_by_push (λ (x : Done). cond (is_delivery (event_on n x.call)) x.first 0) past d, h) (omega arith);
      payments = rw (sum_by_push (λ (x : Done). cond (is_delivery (event_on n x.call)) x.second 0) past d, h) (omega arith);
      endings = rw (endings_push rows [] past d n, h) (omega arith);
    }

pub ordered_stays : (past : List Done) (d : Done) (n : ℕ) (o : Order) → ordered past n ≡ Some o → ordered (past ++ d ∷ []) n ≡ Some o
ordered_stays past d n o h = rw (joined_push (λ (x : Done). placed x.call) past d) (found_before (λ (x : Order). x.number) n (flat_map (λ (x : Done). placed x.call) past) (placed d.call) o h)

pub traded_stays : (past : List Done) (d : Done) (n : ℕ) (t : Trade) → traded past n ≡ Some t → traded (past ++ d ∷ []) n ≡ Some t
traded_stays past d n t h = rw (joined_push (λ (x : Done). executed x.call) past d) (found_before (λ (x : Trade). x.contract) n (flat_map (λ (x : Done). executed x.call) past) (executed d.call) t h)

abbrev pub sides_stay : (past : List Done) (d : Done) (t : Trade) → Sides past t → Sides (past ++ d ∷ []) t
sides_stay past d t s =
    record { bought = s.bought; sold = s.sold; buys = ordered_stays past d t.buy s.bought s.buys; sells = ordered_stays past d t.sell s.sold s.sells }

pub blank_stays : (rows : List Row) (past : List Done) (d : Done) (n : ℕ) → event_on n d.call ≡ None → Blank rows past n → Blank rows (past ++ d ∷ []) n
blank_stays rows past d n h k =
    let u = untouched rows past d n h in
    record { fundings = u.fundings ∙ k.fundings; kilograms = u.kilograms ∙ k.kilograms; payments = u.payments ∙ k.payments; endings = u.endings ∙ k.endings }

pub deal_stays : (rows : List Row) (past : List Done) (d : Done) (n : ℕ) (t : Trade) → event_on n d.call ≡ None → Deal rows past n t → Deal rows (past ++ d ∷ []) n t
deal_stays rows past d n t h k =
    let u = untouched rows past d n h in
    record { sides = sides_stay past d t k.sides; once = rw u.endings k.once; paid = rw (u.payments, u.kilograms) k.paid; within = rw u.kilograms k.within }

pub live_stays : (rows : List Row) (past : List Done) (d : Done) (k : Contract) → event_on k.trade.contract d.call ≡ None → Live rows past k → Live rows (past ++ d ∷ []) k
live_stays rows past d k h l =
    let u = untouched rows past d k.trade.contract h in
    record {
      trade = traded_stays past d k.trade.contract k.trade l.trade;
      sides = sides_stay past d k.trade l.sides;
      buyer = l.buyer;
      seller = l.seller;
      instrument = l.instrument;
      funded = rw u.fundings l.funded;
      kilograms = u.kilograms ∙ l.kilograms;
      payments = u.payments ∙ l.payments;
      unended = u.endings ∙ l.unended;
    }
