-- Each accepted call but an event keeps the tie between the section and the accepted calls.
use Rattle.std.proofs.Common.{◌≡◌, ℕ, ◌<◌, Bool, true, ◌||◌, eqb, List, [], ◌∷◌, ◌++◌, map, Some, None, filter, sym, refl, ap, ◌∙◌, subst, inl, inr, append-nil, arith}
use Rattle.std.specs.List.{flat_map, AllByRecursion as All}
use Rattle.std.proofs.ByRecursion.{All-weaker, all_kept_by, All-map, All-push}
use Rattle.std.proofs.lemmas.Bool.{cases_Bool, ne_eqb, eq-eqb}
use Rattle.rules.specs.declared.rows.Row.{Row}
use Rattle.rules.specs.declared.orders.Order.{Order}
use Rattle.rules.specs.declared.orders.LiveOrder.{LiveOrder}
use Rattle.rules.specs.declared.contracts.Trade.{Trade}
use Rattle.rules.specs.declared.contracts.Contract.{Contract}
use Rattle.rules.specs.declared.calls.Call.TheVariants.{Place, Cancel, Execute, Rerate, EndTrading, EndSession}
use Rattle.rules.specs.Terms.{found}
use Rattle.rules.specs.Limits.{Section, Ledger, row_of, order_live, order_at, no_live_order}
use Rattle.rules.specs.Orders.{other_order, goes_on, has_rest, lowered_by, contract_of, unfilled}
use Rattle.rules.specs.Effects.{section_after}
use Rattle.rules.specs.History.{Done, placed, executed, event_on}
use Rattle.rules.proofs.Payments.{paid_for_none}
use Rattle.law.proofs.Lists.{joined_push, found_later, found_none, found_has, some_or_none}
use Rattle.law.proofs.Rows.{rerated_alike}
use Rattle.law.proofs.Accepting.{Accepts}
use Rattle.law.proofs.Running.{done}
use Rattle.law.proofs.Tied.{ordered, traded, Blank, Sides, Deal, Live, KnownOrder, Tie, ordered_stays, traded_stays, blank_stays, deal_stays, live_stays}

pub ordered_same : (past : List Done) (d : Done) (n : ℕ) → placed d.call ≡ [] → ordered (past ++ d ∷ []) n ≡ ordered past n
ordered_same past d n h = rw (joined_push (λ (x : Done). placed x.call) past d, h, append-nil) refl

pub traded_same : (past : List Done) (d : Done) (n : ℕ) → executed d.call ≡ [] → traded (past ++ d ∷ []) n ≡ traded past n
traded_same past d n h = rw (joined_push (λ (x : Done). executed x.call) past d, h, append-nil) refl

pub orders_stay : (past : List Done) (d : Done) (os : List LiveOrder) → All (KnownOrder past) os → All (KnownOrder (past ++ d ∷ [])) os
orders_stay past d os h = All-weaker (KnownOrder past) (KnownOrder (past ++ d ∷ [])) (λ o. ordered_stays past d o.order.number o.order) os h

pub contracts_stay : (rows : List Row) (past : List Done) (d : Done) → ((n : ℕ) → event_on n d.call ≡ None) → (ks : List Contract) → All (Live rows past) ks → All (Live rows (past ++ d ∷ [])) ks
contracts_stay rows past d e ks h = All-weaker (Live rows past) (Live rows (past ++ d ∷ [])) (λ k. live_stays rows past d k (e k.trade.contract)) ks h

-- a call that places nothing, trades nothing and settles nothing
pub quiet : (rows : List Row) (past : List Done) (d : Done) (k : Section) → placed d.call ≡ [] → executed d.call ≡ [] → ((n : ℕ) → event_on n d.call ≡ None) → Tie rows past k → Tie rows (past ++ d ∷ []) k
quiet rows past d k p t e c =
    record {
      rows = c.rows;
      orders = orders_stay past d k.orders c.orders;
      unordered = λ n h. ordered_same past d n p ∙ c.unordered n h;
      contracts = contracts_stay rows past d e k.contracts c.contracts;
      fresh = λ n h. traded_same past d n t ∙ c.fresh n h;
      untraded = λ n h. blank_stays rows past d n (e n) (c.untraded n (sym (traded_same past d n t) ∙ h));
      deals = λ n x h. deal_stays rows past d n x (e n) (c.deals n x (sym (traded_same past d n t) ∙ h));
    }

-- fewer live orders
fewer : (rows : List Row) (past : List Done) (d e : Section) (p : LiveOrder → Bool) → e.rows ≡ d.rows → e.orders ≡ filter p d.orders → e.contracts ≡ d.contracts → e.last_order ≡ d.last_order → e.last_contract ≡ d.last_contract → Tie rows past d → Tie rows past e
fewer rows past d e p r o k lo lk c =
    record {
      rows = λ i. rw r (c.rows i);
      orders = rw o (all_kept_by p (KnownOrder past) d.orders c.orders);
      unordered = λ n h. c.unordered n (rw lo at h);
      contracts = rw k c.contracts;
      fresh = λ n h. c.fresh n (rw lk at h);
      untraded = c.untraded;
      deals = c.deals;
    }

-- a new order
pub keeps_order : (rows : List Row) (past : List Done) (b : Ledger) (o : Order) → Accepts b (Place o) → Tie rows past b.section → Tie rows (past ++ done b (Place o) ∷ []) (section_after b (Place o))
keeps_order rows past b o a c =
    let d = done b (Place o) in
    let above : b.section.last_order < o.number = a.passed.number in
    let none : (n : ℕ) → b.section.last_order < n → ordered (past ++ d ∷ []) n ≡ found (λ (x : Order). x.number) n (o ∷ []) = λ n h. ap (found (λ (x : Order). x.number) n) (joined_push (λ (x : Done). placed x.call) past d) ∙ found_later (λ (x : Order). x.number) n (flat_map (λ (x : Done). placed x.call) past) (o ∷ []) (c.unordered n h) in
    record {
      rows = c.rows;
      orders = All-push (KnownOrder (past ++ d ∷ [])) b.section.orders (unfilled o) (orders_stay past d b.section.orders c.orders) (none o.number above ∙ rw (eq-eqb o.number o.number refl) refl);
      unordered = λ n h. none n (omega arith) ∙ rw (ne_eqb o.number n (omega arith)) refl;
      contracts = contracts_stay rows past d (λ n. refl) b.section.contracts c.contracts;
      fresh = λ n h. traded_same past d n refl ∙ c.fresh n h;
      untraded = λ n h. blank_stays rows past d n refl (c.untraded n (sym (traded_same past d n refl) ∙ h));
      deals = λ n x h. deal_stays rows past d n x refl (c.deals n x (sym (traded_same past d n refl) ∙ h));
    }

pub keeps_cancel : (rows : List Row) (past : List Done) (b : Ledger) (n : ℕ) → Tie rows past b.section → Tie rows (past ++ done b (Cancel n) ∷ []) (section_after b (Cancel n))
keeps_cancel rows past b n c = fewer rows (past ++ done b (Cancel n) ∷ []) b.section (section_after b (Cancel n)) (other_order n) refl refl refl refl refl (quiet rows past (done b (Cancel n)) b.section refl refl (λ n. refl) c)

pub keeps_closing : (rows : List Row) (past : List Done) (b : Ledger) → Tie rows past b.section → Tie rows (past ++ done b EndTrading ∷ []) (section_after b EndTrading)
keeps_closing rows past b c = fewer rows (past ++ done b EndTrading ∷ []) b.section (section_after b EndTrading) (goes_on b.section.day) refl refl refl refl refl (quiet rows past (done b EndTrading) b.section refl refl (λ n. refl) c)

pub keeps_rating : (rows : List Row) (past : List Done) (b : Ledger) (i rate : ℕ) → Tie rows past b.section → Tie rows (past ++ done b (Rerate i rate) ∷ []) (section_after b (Rerate i rate))
keeps_rating rows past b i rate c =
    let q = quiet rows past (done b (Rerate i rate)) b.section refl refl (λ n. refl) c in
    record {
      rows = λ j. rerated_alike j i rate b.section.rows ∙ q.rows j;
      orders = q.orders;
      unordered = q.unordered;
      contracts = q.contracts;
      fresh = q.fresh;
      untraded = q.untraded;
      deals = q.deals;
    }

pub keeps_next_day : (rows : List Row) (past : List Done) (b : Ledger) → Tie rows past b.section → Tie rows (past ++ done b EndSession ∷ []) (section_after b EndSession)
keeps_next_day rows past b c =
    let q = quiet rows past (done b EndSession) b.section refl refl (λ n. refl) c in
    record { rows = q.rows; orders = q.orders; unordered = q.unordered; contracts = q.contracts; fresh = q.fresh; untraded = q.untraded; deals = q.deals }

known_lowered : (past : List Done) (t : Trade) (o : LiveOrder) → KnownOrder past o → KnownOrder past (lowered_by t o)
known_lowered past t o h =
    elim (cases_Bool (eqb o.order.number t.buy || eqb o.order.number t.sell)) [ inl e ↦ simp e h | inr e ↦ simp e h ]

-- a live order is an accepted one
live_order_known : (past : List Done) (b : Ledger) (n : ℕ) → order_live b n ≡ true → All (KnownOrder past) b.section.orders → ordered past n ≡ Some (order_at b n).order
live_order_known past b n h a =
    let k = found_has (λ (o : LiveOrder). o.order.number) (KnownOrder past) n b.section.orders no_live_order h a in
    rw k.1 at k.0

-- a trade of nothing yet paid
new_deal : (rows : List Row) (past : List Done) (n : ℕ) (t : Trade) → Blank rows past n → Sides past t → Deal rows past n t
new_deal rows past n t e s = record { sides = s; once = rw e.endings (omega arith); paid = rw (e.payments, e.kilograms) (sym (paid_for_none (row_of rows s.bought.instrument) t.price)); within = rw e.kilograms (omega arith) }

pub keeps_trade : (rows : List Row) (past : List Done) (b : Ledger) (t : Trade) → Accepts b (Execute t) → Tie rows past b.section → Tie rows (past ++ done b (Execute t) ∷ []) (section_after b (Execute t))
keeps_trade rows past b t a c =
    let d = done b (Execute t) in
    let number = λ (x : Trade). x.contract in
    let before = flat_map (λ (x : Done). executed x.call) past in
    let pushed : (n : ℕ) → traded (past ++ d ∷ []) n ≡ found number n (before ++ t ∷ []) = λ n. ap (found number n) (joined_push (λ (x : Done). executed x.call) past d) in
    let above : b.section.last_contract < t.contract = a.passed.number in
    let none : (n : ℕ) → traded past n ≡ None → traded (past ++ d ∷ []) n ≡ found number n (t ∷ []) = λ n h. pushed n ∙ found_later number n before (t ∷ []) h in
    let new : traded (past ++ d ∷ []) t.contract ≡ Some t = none t.contract (c.fresh t.contract above) ∙ rw (eq-eqb t.contract t.contract refl) refl in
    let sides : Sides (past ++ d ∷ []) t =
    record {
      bought = (order_at b t.buy).order;
      sold = (order_at b t.sell).order;
      buys = ordered_stays past d t.buy (order_at b t.buy).order (live_order_known past b t.buy a.passed.buy_live c.orders);
      sells = ordered_stays past d t.sell (order_at b t.sell).order (live_order_known past b t.sell a.passed.sell_live c.orders);
    }
    in
    let blank : (n : ℕ) → traded past n ≡ None → Blank rows (past ++ d ∷ []) n = λ n h. blank_stays rows past d n refl (c.untraded n h) in
    let clean = blank t.contract (c.fresh t.contract above) in
    record {
      rows = c.rows;
      orders = all_kept_by has_rest (KnownOrder (past ++ d ∷ [])) (map (lowered_by t) b.section.orders)
          (All-map (KnownOrder (past ++ d ∷ [])) (lowered_by t) b.section.orders
          (All-weaker (KnownOrder past) (λ o. KnownOrder (past ++ d ∷ []) (lowered_by t o)) (λ o h. known_lowered (past ++ d ∷ []) t o (ordered_stays past d o.order.number o.order h)) b.section.orders c.orders));
      unordered = λ n h. ordered_same past d n refl ∙ c.unordered n h;
      contracts = All-push (Live rows (past ++ d ∷ [])) b.section.contracts (contract_of b t) (contracts_stay rows past d (λ n. refl) b.section.contracts c.contracts)
          (record { trade = new; sides = sides; buyer = refl; seller = refl; instrument = refl; funded = rw clean.fundings refl; kilograms = clean.kilograms; payments = clean.payments; unended = clean.endings });
      fresh = λ n h. none n (c.fresh n (omega arith)) ∙ rw (ne_eqb t.contract n (omega arith)) refl;
      untraded = λ n h. blank n (found_none number n before (t ∷ []) (sym (pushed n) ∙ h));
      deals = λ n x h. elim (some_or_none (traded past n)) [
        | inl e ↦ elim (cases_Bool (eqb t.contract n)) [
          | inl f ↦ let g : Some t ≡ Some x = sym (none n e ∙ rw f refl) ∙ h in let s : t ≡ x = cc in subst (Deal rows (past ++ d ∷ []) n) s (new_deal rows (past ++ d ∷ []) n t (blank n e) sides)
          | inr f ↦ let g : None ≡ Some x = sym (none n e ∙ rw f refl) ∙ h in let z : ◌≡◌ {A = ℕ} 0 1 = cc in absurd (omega arith)
        ]
        | inr (y, e) ↦ let g : Some y ≡ Some x = sym (traded_stays past d n y e) ∙ h in let s : y ≡ x = cc in subst (Deal rows (past ++ d ∷ []) n) s (deal_stays rows past d n y refl (c.deals n y e))
      ];
    }
