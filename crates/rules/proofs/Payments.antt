-- The laws of payment to date. Everything else rests on these alone.
use Rattle.std.proofs.Common.{◌≡◌, ℕ, ◌*◌, ◌/◌, ◌<◌, ◌≤◌, sym, refl, ◌∙◌, inl, inr, mul_assoc, mul_comm, mul-le-mul_left, mul-zero, div-mul-le_self, arith}
use native.Mathlib.Nat.{div-zero, zero-div, div-le_of_le-mul}
use Rattle.std.proofs.lemmas.Nat.{le-div}
use Rattle.std.proofs.lemmas.Bool.{cases_lt}
use Rattle.rules.specs.declared.rows.Row.{Row}
use Rattle.rules.specs.Holds.{full_weight, payment_to_date}

div_rises : (a b w : ℕ) → a ≤ b → a / w ≤ b / w
div_rises a b w h =
    elim (cases_lt 0 w) [
      | inl p ↦ let k = div-mul-le_self a w in le-div (a / w) b w p (omega arith)
      | inr z ↦ let e : w ≡ 0 = omega arith in simp (e, div-zero) (omega arith)
    ]

-- nothing is paid for no kilograms
pub paid_for_none : (r : Row) (price : ℕ) → payment_to_date r price 0 ≡ 0
unfolding payment_to_date
paid_for_none r price = rw mul-zero (zero-div r.weight)

-- no less is paid for more kilograms
pub paid_rises : (r : Row) (price a b : ℕ) → a ≤ b → payment_to_date r price a ≤ payment_to_date r price b
unfolding payment_to_date
paid_rises r price a b h = div_rises (price * a) (price * b) r.weight (mul-le-mul_left price h)

weighed : (price lots w : ℕ) → price * (lots * w) ≡ w * (price * lots)
weighed price lots w = sym (mul_assoc price lots w) ∙ mul_comm (price * lots) w

-- up to the full weight of some lots no more is paid than the price for each
pub paid_within : (r : Row) (price lots kg : ℕ) → kg ≤ full_weight r lots → payment_to_date r price kg ≤ price * lots
unfolding payment_to_date
paid_within r price lots kg h = div-le_of_le-mul r.weight (omega (arith, mul-le-mul_left price h, weighed price lots r.weight))

-- at the full weight exactly that is paid
pub paid_in_full : (r : Row) (price lots : ℕ) → 0 < r.weight → payment_to_date r price (full_weight r lots) ≡ price * lots
unfolding payment_to_date
paid_in_full r price lots w =
    let most = paid_within r price lots (full_weight r lots) (omega arith) in
    let least : price * lots ≤ (price * (lots * r.weight)) / r.weight = le-div (price * lots) (price * (lots * r.weight)) r.weight w (omega (arith, mul_assoc price lots r.weight)) in
    omega arith

-- a row's rate is no matter: so payments go on where it changes
pub paid_at_any_rate : (r : Row) (rate price kg : ℕ) →
    payment_to_date (record { number = r.number; kind = r.kind; weight = r.weight; funding = r.funding; delivery = r.delivery; rate = rate }) price kg ≡ payment_to_date r price kg
unfolding payment_to_date
paid_at_any_rate r rate price kg = refl
