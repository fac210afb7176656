-- What the limits of orders, rows and contracts give.
use Rattle.std.proofs.Common.{◌≡◌, ℕ, ◌-◌, Bool, true, false, cond, ◌||◌, eqb, List, [], ◌∷◌, ◌++◌, Vec, length, map, filter, ap, ◌∙◌, arith}
use Rattle.std.specs.List.{AllPass}
use Rattle.std.proofs.lemmas.Bool.Decides.{nat_tests}
use Rattle.std.proofs.lemmas.List.{with_items_is}
use Rattle.std.proofs.lemmas.List.Elements.{All-filter, All-map, All-push, All-same, All-weaker}
use Rattle.std.specs.Vec.{with_items}
use Rattle.rules.specs.declared.rows.Row.{Row}
use Rattle.rules.specs.declared.orders.LiveOrder.{LiveOrder}
use Rattle.rules.specs.declared.contracts.Trade.{Trade}
use Rattle.rules.specs.declared.contracts.State.{State}
use Rattle.rules.specs.declared.contracts.Contract.{Contract}
use Rattle.rules.specs.Orders.{at_rest, lowered_by}
use Rattle.rules.specs.Effects.{in_state, rerated, with_state}
use Rattle.section.specs.Fits.{fit_row, fit_contract, fit_state}
use Rattle.section.specs.Fits.{fit_order}

module _ {X : Type 0} (p : X → Bool) where
  abbrev Fit : X → Type 0
  Fit x = p x ≡ true

  -- a list whose elements are changed, or of which some are kept, or one with one more
  pub fit_mapped : (f : X → X) → ((x : X) → p x ≡ true → p (f x) ≡ true) → (xs ys : List X) → ys ≡ map f xs → AllPass p xs → AllPass p ys
  fit_mapped f each xs ys is all = All-same Fit _ _ is (All-map Fit f xs (All-weaker Fit (λ x. Fit (f x)) each xs all))

  pub fit_kept : (keep : X → Bool) (xs ys : List X) → ys ≡ filter keep xs → AllPass p xs → AllPass p ys
  fit_kept keep xs ys is all = All-same Fit _ _ is (All-filter keep Fit xs all)

  pub fit_push : (xs ys : List X) (y : X) → ys ≡ xs ++ y ∷ [] → p y ≡ true → AllPass p xs → AllPass p ys
  fit_push xs ys y is fit all = All-same Fit _ _ is (All-push Fit xs y all fit)

  -- what is written back to a vector, each element changed
  pub written : {Z : Type 0} (f : X → X) (v : Vec X Z) (lent ws : List X) → lent ≡ v.items → length ws ≡ v.len → ws ≡ map f lent → (with_items v ws).items ≡ map f v.items
  written f v lent ws same long is = with_items_is v ws long ∙ is ∙ ap (map f) same

  -- a change of some elements
  fit_changed : (t : Bool) (x y : X) → p x ≡ true → p y ≡ true → p (cond t x y) ≡ true
  fit_changed true x y one other = one
  fit_changed false x y one other = other

pub lowered_fit : (t : Trade) (o : LiveOrder) → fit_order o ≡ true → fit_order (lowered_by t o) ≡ true
lowered_fit t o h =
    let less : fit_order (at_rest o (o.rest - t.lots)) ≡ true = grind (arith, nat_tests) in
    fit_changed fit_order (eqb o.order.number t.buy || eqb o.order.number t.sell) _ o less h

pub rerated_fit : (i rate : ℕ) (r : Row) → fit_row r ≡ true → fit_row (rerated i rate r) ≡ true
rerated_fit i rate r h = fit_changed fit_row (eqb r.number i) _ r h h

-- a contract in another state that keeps its limits
pub in_state_fit : (n : ℕ) (s : State) → fit_state s ≡ true → (k : Contract) → fit_contract k ≡ true → fit_contract (in_state n s k) ≡ true
in_state_fit n s fit k h =
    let moved : fit_contract (with_state s k) ≡ true = grind (arith, nat_tests) in
    fit_changed fit_contract (eqb k.trade.contract n) _ k moved h
