-- After every run from a start with a fair charge, all that the law says of a point stands.
use Rattle.std.proofs.Common.{◌≡◌, ℕ, ◌+◌, ◌≤◌, List, [], ◌∷◌, ◌++◌, get_or, pos, ◌-ℤ◌, ◌≤ℤ◌, Option, unwrap_or, sym, refl, ap, ◌∙◌, inl, inr, arith}
use Rattle.std.proofs.lemmas.Int.{ints}
use Rattle.charge.specs.Charges.{Fair}
use Rattle.rules.specs.declared.rows.Row.{Row}
use Rattle.rules.specs.declared.orders.Order.{Order}
use Rattle.rules.specs.declared.contracts.Trade.{Trade}
use Rattle.rules.specs.declared.calls.Call.{Call}
use Rattle.rules.specs.declared.calls.Call.TheVariants.{Deposit, Withdraw, Shift, DepositGoods, WithdrawGoods, Place, Cancel, Execute, Rerate, EndTrading, Settle, EndSession}
use Rattle.rules.specs.Holds.{payment_to_date}
use Rattle.rules.specs.Limits.{Ledger, Section, row_of, no_trade, no_order, clearing, clearing_holds, stock, goods_holds}
use Rattle.rules.specs.Effects.{section_after}
use Rattle.rules.specs.Runs.{Step, reached, Run}
use Rattle.rules.specs.History.{Done, accepted, trade_in, order_in, row_in, instrument_in, kilograms_in, payments_in, endings, money_taken, goods_taken}
use Rattle.rules.specs.Law.{Start, opened, rows_of}
use Rattle.rules.proofs.Payments.{paid_for_none}
use Rattle.rules.proofs.Prefixes.{keeps_money, keeps_goods}
use Rattle.rules.proofs.Laws.{Always}
use Rattle.law.proofs.Lists.{some_or_none}
use Rattle.law.proofs.Accepting.{Accepts}
use Rattle.law.proofs.Running.{done, Keeps, runs_keep}
use Rattle.law.proofs.Tied.{traded, Tie}
use Rattle.law.proofs.TiedCalls.{quiet, keeps_order, keeps_cancel, keeps_trade, keeps_rating, keeps_closing, keeps_next_day}
use Rattle.law.proofs.TiedEvents.{keeps_event}
use Rattle.law.proofs.Balances.{Balanced, keeps_balance}
use Rattle.law.proofs.Holding.{clearing_of, goods_of, clearing_held}
use Rattle.law.proofs.Sound.{Sound, sound_at_opening, sound_kept}

-- ---- the tie

tie_kept : (rows : List Row) (past : List Done) (b : Ledger) (c : Call) → Accepts b c → Tie rows past b.section → Tie rows (past ++ done b c ∷ []) (section_after b c)
tie_kept rows past b (Deposit m p x) a k = quiet rows past (done b (Deposit m p x)) b.section refl refl (λ n. refl) k
tie_kept rows past b (Withdraw m p x) a k = quiet rows past (done b (Withdraw m p x)) b.section refl refl (λ n. refl) k
tie_kept rows past b (Shift m p x) a k = quiet rows past (done b (Shift m p x)) b.section refl refl (λ n. refl) k
tie_kept rows past b (DepositGoods m i x) a k = quiet rows past (done b (DepositGoods m i x)) b.section refl refl (λ n. refl) k
tie_kept rows past b (WithdrawGoods m i x) a k = quiet rows past (done b (WithdrawGoods m i x)) b.section refl refl (λ n. refl) k
tie_kept rows past b (Place o) a k = keeps_order rows past b o a k
tie_kept rows past b (Cancel n) a k = keeps_cancel rows past b n k
tie_kept rows past b (Execute t) a k = keeps_trade rows past b t a k
tie_kept rows past b (Rerate i rate) a k = keeps_rating rows past b i rate k
tie_kept rows past b EndTrading a k = keeps_closing rows past b k
tie_kept rows past b (Settle n e) a k = keeps_event rows past b n e a k
tie_kept rows past b EndSession a k = keeps_next_day rows past b k

tie_at_opening : (o : Start) → Tie (rows_of o) [] (opened o).ledger.section
tie_at_opening o =
    record {
      rows = λ i. refl;
      orders = tt;
      unordered = λ n h. refl;
      contracts = tt;
      fresh = λ n h. refl;
      untraded = λ n h. record { fundings = refl; kilograms = refl; payments = refl; endings = refl };
      deals = λ n t h. let z : ◌≡◌ {A = ℕ} 0 1 = cc in absurd (omega arith);
    }

-- ---- the invariant of runs

pub record Kept (rows : List Row) (xs ys : List ℕ) (past : List Done) (b : Ledger) : Type 0 where
  pub tie : Tie rows past b.section
  pub balanced : Balanced rows xs ys past b
  pub sound : Sound b

all_kept : (rows : List Row) (xs ys : List ℕ) → Keeps (Kept rows xs ys)
all_kept rows xs ys past b c t a i =
    record { tie = tie_kept rows past b c a i.tie; balanced = keeps_balance rows xs ys past b c a i.tie i.balanced; sound = sound_kept rows past b c a i.tie i.sound }

kept_at_opening : (o : Start) → Fair o.charge → Kept (rows_of o) o.money.amounts o.goods.amounts [] (opened o).ledger
kept_at_opening o fair =
    record {
      tie = tie_at_opening o;
      balanced = record { money = λ r. refl; goods = λ r. refl };
      sound = sound_at_opening o.top o.charge o.rows o.money.amounts o.goods.amounts fair;
    }

pub kept_by_runs : (o : Start) → Fair o.charge → (steps : List Step) → Run (opened o) steps → Kept (rows_of o) o.money.amounts o.goods.amounts (accepted steps) (reached (opened o) steps).ledger
kept_by_runs o fair steps run =
    runs_keep (Kept (rows_of o) o.money.amounts o.goods.amounts) (all_kept (rows_of o) o.money.amounts o.goods.amounts) [] (opened o) steps run (kept_at_opening o fair)

-- ---- what it gives at a point

ended_once : (rows : List Row) (past : List Done) (d : Section) (n : ℕ) → Tie rows past d → endings rows [] past n ≤ 1
ended_once rows past d n c = elim (some_or_none (traded past n)) [ inl e ↦ omega (arith, (c.untraded n e).endings) | inr (t, e) ↦ (c.deals n t e).once ]

paid_in_all : (rows : List Row) (past : List Done) (d : Section) (n : ℕ) → Tie rows past d → payments_in past n ≡ payment_to_date (row_in rows past n) (trade_in past n).price (kilograms_in past n)
paid_in_all rows past d n c =
    elim (some_or_none (traded past n)) [
      | inl e ↦ let z = c.untraded n e in z.payments ∙ sym (ap (payment_to_date (row_in rows past n) (trade_in past n).price) z.kilograms ∙ paid_for_none (row_in rows past n) (trade_in past n).price)
      | inr (t, e) ↦
          let d = c.deals n t e in
          let s : trade_in past n ≡ t = ap (λ (x : Option Trade). unwrap_or x no_trade) e in
          let buy : order_in past (trade_in past n).buy ≡ d.sides.bought = ap (λ (x : Trade). order_in past x.buy) s ∙ ap (λ (x : Option Order). unwrap_or x no_order) d.sides.buys in
          let i : instrument_in past n ≡ d.sides.bought.instrument = ap (λ (x : Order). x.instrument) buy in
          d.paid ∙ ap (λ i. payment_to_date (row_of rows i) t.price (kilograms_in past n)) (sym i) ∙ ap (λ (x : Trade). payment_to_date (row_in rows past n) x.price (kilograms_in past n)) (sym s)
    ]

not_below : (amount held : ℕ) → held ≤ amount → pos 0 ≤ℤ (pos amount -ℤ pos held)
not_below amount held h = omega (arith, ints)

pub always : (o : Start) → Fair o.charge → Always o
always o fair steps run =
    let b = (reached (opened o) steps).ledger in
    let past = accepted steps in
    let k = kept_by_runs o fair steps run in
    let money = keeps_money (opened o) steps run refl in
    let goods = keeps_goods (opened o) steps run refl in
    record {
      money_kept = money;
      goods_kept = goods;
      money_balance = λ r. ap (λ (xs : List ℕ). get_or xs r 0 + money_taken (rows_of o) past r) money ∙ k.balanced.money r;
      goods_balance = λ r. ap (λ (xs : List ℕ). get_or xs r 0 + goods_taken (rows_of o) past r) goods ∙ k.balanced.goods r;
      clearing_free = λ m. not_below (clearing b m) (clearing_holds b m) (omega (arith, clearing_held b m, k.sound.covered (clearing_of m) tt));
      goods_free = λ m i l. not_below (stock b m i) (goods_holds b m i) (k.sound.covered (goods_of m i) l);
      ended_once = λ n. ended_once (rows_of o) past b.section n k.tie;
      paid = λ n. paid_in_all (rows_of o) past b.section n k.tie;
    }
