-- Charges: what a rule may ask, and the percent and the flat rule. Assumes nothing.
use Rattle.std.specs.Prelude.{ℕ, ◌+◌, ◌*◌, ◌/◌, ◌≤◌, Bool, cond, ◌&&◌, nat_le}

-- a charge in kopecks, for a rate, a price and a number of lots
abbrev pub Charge : Type 0
Charge = ℕ → ℕ → ℕ → ℕ

-- parts of up to 10,000 lots cost no more than the whole
pub record Fair (charge : Charge) : Type 0 where
  pub splits : (rate price a b : ℕ) → a + b ≤ 10000 → charge rate price a + charge rate price b ≤ charge rate price (a + b)

-- no charge is above this
abbrev pub highest : ℕ
highest = 100000000000000

-- rate, price and lots are within their limits, under a top rate
abbrev pub chargeable : ℕ → ℕ → ℕ → ℕ → Bool
chargeable top rate price lots = nat_le rate top && ((nat_le 1 price && nat_le price 1000000000) && (nat_le 1 lots && nat_le lots 10000))

-- so much for each lot, within the limits
abbrev pub by_lots : ℕ → ℕ → Charge
by_lots top each rate price lots = cond (chargeable top rate price lots) (each * lots) 0

-- the percent rule: one lot costs price × rate ÷ 10,000 rounded up
abbrev pub percent_top : ℕ
percent_top = 10000

abbrev pub percent_of : ℕ → ℕ → ℕ
percent_of rate price = (price * rate + 9999) / 10000

abbrev pub percent : Charge
percent rate price lots = by_lots percent_top (percent_of rate price) rate price lots

-- the flat rule: the rate is the cost of one lot
abbrev pub flat_top : ℕ
flat_top = 1000000000

abbrev pub flat : Charge
flat rate price lots = by_lots flat_top rate rate price lots
