-- Each event of a live contract keeps the tie between the section and the accepted calls.
use Rattle.std.proofs.Common.{◌≡◌, ℕ, ◌+◌, ◌≤◌, true, false, cond, ◌&&◌, ◌||◌, eqb, ltb, List, [], ◌∷◌, ◌++◌, Some, None, Option, unwrap_or, sym, refl, ap, ◌∙◌, subst, inl, inr, add-zero, zero-add, arith}
use Rattle.std.specs.List.{AllByRecursion as All}
use Rattle.std.proofs.lemmas.List.Sums.{sum_by_push}
use Rattle.std.proofs.ByRecursion.{All-weaker, All-map}
use Rattle.std.proofs.lemmas.Bool.{cases_Bool, ne_eqb, eq-eqb, eqb-true, eqb-false, not-true, lt-ltb, cond_both}
use Rattle.rules.specs.declared.rows.Row.{Row}
use Rattle.rules.specs.declared.orders.Order.{Order}
use Rattle.rules.specs.declared.contracts.Trade.{Trade}
use Rattle.rules.specs.declared.contracts.State.{State}
use Rattle.rules.specs.declared.contracts.State.TheVariants.{Unfunded, Funded}
use Rattle.rules.specs.declared.contracts.Contract.{Contract}
use Rattle.rules.specs.declared.contracts.Event.{Event}
use Rattle.rules.specs.declared.contracts.Event.TheVariants.{Funding, Delivery, Default}
use Rattle.rules.specs.declared.calls.Call.TheVariants.{Settle}
use Rattle.rules.specs.Holds.{is_funded, delivered, payments, value, payment_to_date, full_weight, fully_delivered}
use Rattle.rules.specs.Limits.{Ledger, row_of, no_trade, no_order, no_contract, contract_live, contract_at, contract_row}
use Rattle.rules.specs.Settling.{counted, delivered_after, payment, event_state}
use Rattle.rules.specs.Effects.{in_state, settled, other_contract, with_contracts, section_after}
use Rattle.rules.specs.History.{Done, placed, executed, event_on, if_same, is_funding, is_delivery, is_default, endings, kilograms_in, payments_in, row_in, trade_in, order_in, buyer_in, seller_in, instrument_in, funded_in}
use Rattle.rules.proofs.Payments.{paid_rises, paid_within}
use Rattle.law.proofs.Lists.{found_has, all_kept_when}
use Rattle.law.proofs.Rows.{Alike, alike, paid_alike}
use Rattle.law.proofs.Accepting.{Accepts}
use Rattle.law.proofs.Running.{done}
use Rattle.law.proofs.Pushing.{endings_push}
use Rattle.law.proofs.Tied.{traded, fundings, Deal, Live, Tie, traded_stays, sides_stay, blank_stays, deal_stays, live_stays}
use Rattle.law.proofs.TiedCalls.{orders_stay, ordered_same, traded_same}

-- ---- what the accepted calls tell of a live contract

pub record Response (rows : List Row) (past : List Done) (b : Ledger) (n : ℕ) : Type 0 where
  pub number : (contract_at b n).trade.contract ≡ n
  pub live : Live rows past (contract_at b n)
  pub trade : trade_in past n ≡ (contract_at b n).trade
  pub buyer : buyer_in past n ≡ (contract_at b n).buyer
  pub seller : seller_in past n ≡ (contract_at b n).seller
  pub instrument : instrument_in past n ≡ (contract_at b n).instrument
  pub row : Alike (contract_row b n) (row_in rows past n)
  pub funded : funded_in past n ≡ is_funded (contract_at b n).state
  pub kilograms : kilograms_in past n ≡ delivered (contract_at b n).state
  -- its state is paid as it was delivered, and within its lots
  pub paid : payments (contract_at b n).state ≡ payment_to_date (contract_row b n) (contract_at b n).trade.price (delivered (contract_at b n).state)
  pub within : delivered (contract_at b n).state ≤ full_weight (contract_row b n) (contract_at b n).trade.lots
  pub payments : payments_in past n ≡ payments (contract_at b n).state
  pub unended : endings rows [] past n ≡ 0

same_weight : (r s : Row) → Alike r s → (lots : ℕ) → full_weight r lots ≡ full_weight s lots
same_weight r s e lots = alike (λ x. full_weight x lots) (λ x. refl) r s e

pub response_at : (rows : List Row) (past : List Done) (b : Ledger) (n : ℕ) → contract_live b n ≡ true → Tie rows past b.section → Response rows past b n
response_at rows past b n h c =
    let k = contract_at b n in
    let f = found_has (λ (x : Contract). x.trade.contract) (Live rows past) n b.section.contracts no_contract h c.contracts in
    let l : Live rows past k = f.0 in
    let same : k.trade.contract ≡ n = f.1 in
    let had : traded past n ≡ Some k.trade = subst (λ i. traded past i ≡ Some k.trade) same l.trade in
    let t : trade_in past n ≡ k.trade = ap (λ (x : Option Trade). unwrap_or x no_trade) had in
    let buy : order_in past (trade_in past n).buy ≡ l.sides.bought = ap (λ (x : Trade). order_in past x.buy) t ∙ ap (λ (x : Option Order). unwrap_or x no_order) l.sides.buys in
    let sell : order_in past (trade_in past n).sell ≡ l.sides.sold = ap (λ (x : Trade). order_in past x.sell) t ∙ ap (λ (x : Option Order). unwrap_or x no_order) l.sides.sells in
    let i : instrument_in past n ≡ k.instrument = ap (λ (x : Order). x.instrument) buy ∙ l.instrument in
    let deal = c.deals n k.trade had in
    let one : Some deal.sides.bought ≡ Some l.sides.bought = sym deal.sides.buys ∙ l.sides.buys in
    let bought : deal.sides.bought ≡ l.sides.bought = cc in
    let instrument : deal.sides.bought.instrument ≡ k.instrument = ap (λ (x : Order). x.instrument) bought ∙ l.instrument in
    let kilograms : kilograms_in past n ≡ delivered k.state = subst (λ i. kilograms_in past i ≡ delivered k.state) same l.kilograms in
    let pays : payments_in past n ≡ payments k.state = subst (λ i. payments_in past i ≡ payments k.state) same l.payments in
    let r = contract_row b n in
    let opening = row_of rows k.instrument in
    let row : Alike r opening = c.rows k.instrument in
    record {
      number = same;
      live = l;
      trade = t;
      buyer = ap (λ (x : Order). x.member) buy ∙ l.buyer;
      seller = ap (λ (x : Order). x.member) sell ∙ l.seller;
      instrument = i;
      row = subst (λ x. Alike r (row_of rows x)) (sym i) row;
      funded = subst (λ i. funded_in past i ≡ is_funded k.state) same l.funded;
      kilograms = kilograms;
      payments = pays;
      unended = subst (λ i. endings rows [] past i ≡ 0) same l.unended;
      paid = sym pays ∙ deal.paid ∙ ap (λ i. payment_to_date (row_of rows i) k.trade.price (kilograms_in past n)) instrument
          ∙ ap (payment_to_date opening k.trade.price) kilograms ∙ sym (paid_alike r opening row k.trade.price (delivered k.state));
      within = omega (arith, subst (λ i. kilograms_in past n ≤ full_weight (row_of rows i) k.trade.lots) instrument deal.within, kilograms, same_weight r opening row k.trade.lots);
    }

-- ---- one event of a live contract

-- what a state must match of the accepted calls
pub record Matches (rows : List Row) (past : List Done) (n : ℕ) (s : State) : Type 0 where
  pub funded : ltb 0 (fundings past n) ≡ is_funded s
  pub kilograms : kilograms_in past n ≡ delivered s
  pub payments : payments_in past n ≡ payments s
  pub unended : endings rows [] past n ≡ 0

abbrev pub Left : List Row → List Done → ℕ → Option State → Type 0
Left rows past n None = Unit {0}
Left rows past n (Some s) = Matches rows past n s

other_event : (n m : ℕ) (e : Event) → (n ≡ m → ⊥) → if_same m n e ≡ None
other_event n m e h = rw (ne_eqb n m h) refl

moved_live : (rows : List Row) (past : List Done) (d : Done) (n : ℕ) (e : Event) (s : State) → d.call ≡ Settle n e → Matches rows (past ++ d ∷ []) n s → (k : Contract) → Live rows past k → Live rows (past ++ d ∷ []) (in_state n s k)
moved_live rows past d n e s is m k l =
    elim (cases_Bool (eqb k.trade.contract n)) [
      | inl q ↦ let same : k.trade.contract ≡ n = eqb-true k.trade.contract n q in
          rw q (record {
            trade = traded_stays past d k.trade.contract k.trade l.trade;
            sides = sides_stay past d k.trade l.sides;
            buyer = l.buyer;
            seller = l.seller;
            instrument = l.instrument;
            funded = rw same m.funded;
            kilograms = rw same m.kilograms;
            payments = rw same m.payments;
            unended = rw same m.unended;
          })
      | inr q ↦ rw q (live_stays rows past d k (rw is (other_event n k.trade.contract e (λ x. eqb-false k.trade.contract n q (sym x)))) l)
    ]

contracts_settled : (rows : List Row) (past : List Done) (d : Done) (n : ℕ) (e : Event) (next : Option State) → d.call ≡ Settle n e → Left rows (past ++ d ∷ []) n next → (ks : List Contract) → All (Live rows past) ks → All (Live rows (past ++ d ∷ [])) (settled n next ks)
contracts_settled rows past d n e None is m ks a =
    all_kept_when (other_contract n) (Live rows past) (Live rows (past ++ d ∷ [])) (λ k h l. live_stays rows past d k (rw is (other_event n k.trade.contract e (λ x. eqb-false k.trade.contract n (not-true (eqb k.trade.contract n) h) (sym x)))) l) ks a
contracts_settled rows past d n e (Some s) is m ks a =
    All-map (Live rows (past ++ d ∷ [])) (in_state n s) ks (All-weaker (Live rows past) (λ k. Live rows (past ++ d ∷ []) (in_state n s k)) (moved_live rows past d n e s is m) ks a)

-- ---- the tie after an event, from what it leaves of its one contract

pub record Leaves (rows : List Row) (past : List Done) (b : Ledger) (n : ℕ) (next : Option State) : Type 0 where
  pub once : endings rows [] past n ≤ 1
  pub paid : payments_in past n ≡ payment_to_date (contract_row b n) (contract_at b n).trade.price (kilograms_in past n)
  pub within : kilograms_in past n ≤ full_weight (contract_row b n) (contract_at b n).trade.lots
  pub left : Left rows past n next

settle_keeps : (rows : List Row) (past : List Done) (b : Ledger) (d : Done) (n : ℕ) (e : Event) (next : Option State) → d.call ≡ Settle n e →
    Response rows past b n → Leaves rows (past ++ d ∷ []) b n next → Tie rows past b.section → Tie rows (past ++ d ∷ []) (with_contracts b.section (settled n next b.section.contracts))
settle_keeps rows past b d n e next is responses leaves c =
    let k = contract_at b n in
    let l = responses.live in
    let now = past ++ d ∷ [] in
    let p : placed d.call ≡ [] = rw is refl in
    let t : executed d.call ≡ [] = rw is refl in
    let had : traded past n ≡ Some k.trade = subst (λ i. traded past i ≡ Some k.trade) responses.number l.trade in
    let quiet_at : (m : ℕ) → (n ≡ m → ⊥) → event_on m d.call ≡ None = λ m h. rw is (other_event n m e h) in
    let opening = row_of rows k.instrument in
    let row : Alike (contract_row b n) opening = c.rows k.instrument in
    let paid : payments_in now n ≡ payment_to_date opening k.trade.price (kilograms_in now n) = leaves.paid ∙ paid_alike (contract_row b n) opening row k.trade.price (kilograms_in now n) in
    let within : kilograms_in now n ≤ full_weight opening k.trade.lots = omega (arith, leaves.within, same_weight (contract_row b n) opening row k.trade.lots) in
    record {
      rows = c.rows;
      orders = orders_stay past d b.section.orders c.orders;
      unordered = λ m h. ordered_same past d m p ∙ c.unordered m h;
      contracts = contracts_settled rows past d n e next is leaves.left b.section.contracts c.contracts;
      fresh = λ m h. traded_same past d m t ∙ c.fresh m h;
      untraded = λ m h. let g : traded past m ≡ None = sym (traded_same past d m t) ∙ h in
          blank_stays rows past d m (quiet_at m (λ x. let y : traded past n ≡ None = rw x g in let z : ◌≡◌ {A = ℕ} 0 1 = cc in omega arith)) (c.untraded m g);
      deals = λ m x h. let g : traded past m ≡ Some x = sym (traded_same past d m t) ∙ h in
          elim (cases_Bool (eqb n m)) [
            | inl q ↦ let f : n ≡ m = eqb-true n m q in
                let y : k.trade ≡ x = (let u : traded past n ≡ Some x = rw f g in let v : Some k.trade ≡ Some x = sym had ∙ u in cc) in
                subst (λ i. Deal rows now i x) f (subst (Deal rows now n) y
                (record { sides = sides_stay past d k.trade l.sides; once = leaves.once; paid = rw l.instrument paid; within = rw l.instrument within }))
            | inr q ↦ deal_stays rows past d m x (quiet_at m (eqb-false n m q)) (c.deals m x g)
          ];
    }

-- ---- what one event adds

record Added (rows : List Row) (past : List Done) (d : Done) (n : ℕ) (v : Option Event) : Type 0 where
  pub fundings : fundings (past ++ d ∷ []) n ≡ fundings past n + cond (is_funding v) 1 0
  pub kilograms : kilograms_in (past ++ d ∷ []) n ≡ kilograms_in past n + cond (is_delivery v) d.first 0
  pub payments : payments_in (past ++ d ∷ []) n ≡ payments_in past n + cond (is_delivery v) d.second 0
  pub endings : endings rows [] (past ++ d ∷ []) n ≡ endings rows [] past n + cond (is_default v || (is_delivery v && fully_delivered (row_in rows past n) (trade_in past n).lots (kilograms_in past n + d.first))) 1 0

added : (rows : List Row) (past : List Done) (d : Done) (n : ℕ) (v : Option Event) → event_on n d.call ≡ v → Added rows past d n v
added rows past d n v h =
    record {
      fundings = rw (sum_by_push (λ (x : Done). cond (is_funding (event_on n x.call)) 1 0) past d, h) refl;
      kilograms = rw (sum_by_push (λ (x : Done). cond (is_delivery (event_on n x.call)) x.first 0) past d, h) refl;
      payments = rw (sum_by_push (λ (x : Done). cond (is_delivery (event_on n x.call)) x.second 0) past d, h) refl;
      endings = rw (endings_push rows [] past d n, h) refl;
    }

pub record Unbegun (s : State) : Type 0 where
  pub kilograms : delivered s ≡ 0
  pub payments : payments s ≡ 0

-- nothing is delivered or paid before the funding
pub unfunded : (s : State) → is_funded s ≡ false → Unbegun s
unfunded Unfunded h = record { kilograms = refl; payments = refl }
unfunded (Funded kg paid) h = let z : ◌≡◌ {A = ℕ} 0 1 = cc in absurd (omega arith)

same_event : (n : ℕ) (e : Event) → if_same n n e ≡ Some e
same_event n e = rw (eq-eqb n n refl) refl

-- ---- the three events

-- an event that delivers nothing
nothing_delivered : (rows : List Row) (past : List Done) (b : Ledger) (d : Done) (n : ℕ) (v : Option Event) (next : Option State) → is_delivery v ≡ false → Added rows past d n v → Response rows past b n →
    endings rows [] (past ++ d ∷ []) n ≤ 1 → Left rows (past ++ d ∷ []) n next → Leaves rows (past ++ d ∷ []) b n next
nothing_delivered rows past b d n v next none u t once left =
    let kilograms : kilograms_in (past ++ d ∷ []) n ≡ delivered (contract_at b n).state = u.kilograms ∙ rw none (add-zero (kilograms_in past n)) ∙ t.kilograms in
    let pays : payments_in (past ++ d ∷ []) n ≡ payments (contract_at b n).state = u.payments ∙ rw none (add-zero (payments_in past n)) ∙ t.payments in
    record {
      once = once;
      paid = pays ∙ t.paid ∙ ap (payment_to_date (contract_row b n) (contract_at b n).trade.price) (sym kilograms);
      within = omega (arith, kilograms, t.within);
      left = left;
    }

keeps_funding : (rows : List Row) (past : List Done) (b : Ledger) (n : ℕ) → Accepts b (Settle n Funding) → Tie rows past b.section → Tie rows (past ++ done b (Settle n Funding) ∷ []) (section_after b (Settle n Funding))
keeps_funding rows past b n a c =
    let d = done b (Settle n Funding) in
    let t = response_at rows past b n a.passed.live c in
    let u = added rows past d n (Some Funding) (same_event n Funding) in
    let z = unfunded (contract_at b n).state a.passed.unfunded in
    settle_keeps rows past b d n Funding (Some (Funded 0 0)) refl t
    (nothing_delivered rows past b d n (Some Funding) (Some (Funded 0 0)) refl u t (omega (arith, u.endings, t.unended))
    (record {
      funded = lt-ltb 0 (fundings (past ++ d ∷ []) n) (omega (arith, u.fundings));
      kilograms = u.kilograms ∙ add-zero (kilograms_in past n) ∙ t.kilograms ∙ z.kilograms;
      payments = u.payments ∙ add-zero (payments_in past n) ∙ t.payments ∙ z.payments;
      unended = u.endings ∙ add-zero (endings rows [] past n) ∙ t.unended;
    }))
    c

keeps_default : (rows : List Row) (past : List Done) (b : Ledger) (n : ℕ) → Accepts b (Settle n Default) → Tie rows past b.section → Tie rows (past ++ done b (Settle n Default) ∷ []) (section_after b (Settle n Default))
keeps_default rows past b n a c =
    let d = done b (Settle n Default) in
    let t = response_at rows past b n a.passed.live c in
    let u = added rows past d n (Some Default) (same_event n Default) in
    settle_keeps rows past b d n Default None refl t (nothing_delivered rows past b d n (Some Default) None refl u t (omega (arith, u.endings, t.unended)) tt) c

-- a delivery counts no more than the kilograms open
counted_within : (r : Row) (k : Contract) (kg : ℕ) → delivered k.state ≤ full_weight r k.trade.lots → delivered_after r k kg ≤ full_weight r k.trade.lots
counted_within r k kg h = omega arith

-- what was paid before a delivery and what is paid for it
pub record Pays (r : Row) (k : Contract) (kg : ℕ) : Type 0 where
  pub all : payments k.state + payment r k kg ≡ payment_to_date r k.trade.price (delivered_after r k kg)
  pub within : delivered_after r k kg ≤ full_weight r k.trade.lots
  pub owed : payments k.state + payment r k kg ≤ value k

pub pays : (rows : List Row) (past : List Done) (b : Ledger) (n kg : ℕ) → Response rows past b n → Pays (contract_row b n) (contract_at b n) kg
pays rows past b n kg t =
    let k = contract_at b n in
    let r = contract_row b n in
    let all : payments k.state + payment r k kg ≡ payment_to_date r k.trade.price (delivered_after r k kg) =
    omega (arith, t.paid, paid_rises r k.trade.price (delivered k.state) (delivered_after r k kg) (omega arith)) in
    let within = counted_within r k kg t.within in
    record { all = all; within = within; owed = omega (arith, all, paid_within r k.trade.price k.trade.lots (delivered_after r k kg) within) }

keeps_delivery : (rows : List Row) (past : List Done) (b : Ledger) (n kg : ℕ) → Accepts b (Settle n (Delivery kg)) → Tie rows past b.section → Tie rows (past ++ done b (Settle n (Delivery kg)) ∷ []) (section_after b (Settle n (Delivery kg)))
keeps_delivery rows past b n kg a c =
    let d = done b (Settle n (Delivery kg)) in
    let k = contract_at b n in
    let r = contract_row b n in
    let t = response_at rows past b n a.passed.live c in
    let u = added rows past d n (Some (Delivery kg)) (same_event n (Delivery kg)) in
    let p = pays rows past b n kg t in
    let full = fully_delivered r k.trade.lots (delivered_after r k kg) in
    let ending : fully_delivered (row_in rows past n) (trade_in past n).lots (kilograms_in past n + counted r k kg) ≡ full =
    rw (t.trade, t.kilograms) (sym (alike (λ x. fully_delivered x k.trade.lots (delivered_after r k kg)) (λ x. refl) r (row_in rows past n) t.row)) in
    let ended : endings rows [] (past ++ d ∷ []) n ≡ cond full 1 0 = rw (u.endings, t.unended, ending) (zero-add (cond full 1 0)) in
    let kilograms : kilograms_in (past ++ d ∷ []) n ≡ delivered_after r k kg = rw (u.kilograms, t.kilograms) refl in
    let paid : payments_in (past ++ d ∷ []) n ≡ payments k.state + payment r k kg = rw (u.payments, t.payments) refl in
    settle_keeps rows past b d n (Delivery kg) (event_state r k (Delivery kg)) refl t
    (record {
      once = rw ended (cond_both full 1 0 (λ x. x ≤ 1) (λ e. omega arith) (λ e. omega arith));
      paid = paid ∙ p.all ∙ ap (payment_to_date r k.trade.price) (sym kilograms);
      within = omega (arith, kilograms, p.within);
      left = elim (cases_Bool full) [
        | inl e ↦ rw e tt
        | inr e ↦ rw e (record {
          funded = ap (ltb 0) (u.fundings ∙ add-zero (fundings past n)) ∙ t.funded ∙ a.passed.funded;
          kilograms = kilograms;
          payments = paid;
          unended = ended ∙ rw e refl;
        })
      ];
    })
    c

pub keeps_event : (rows : List Row) (past : List Done) (b : Ledger) (n : ℕ) (e : Event) → Accepts b (Settle n e) → Tie rows past b.section → Tie rows (past ++ done b (Settle n e) ∷ []) (section_after b (Settle n e))
keeps_event rows past b n Funding a k = keeps_funding rows past b n a k
keeps_event rows past b n (Delivery kg) a k = keeps_delivery rows past b n kg a k
keeps_event rows past b n Default a k = keeps_default rows past b n a k
