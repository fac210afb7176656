-- A charge of so much for each lot keeps the law of charges.
use Rattle.std.specs.Prelude.{◌≡◌, ℕ, ◌+◌, ◌*◌, ◌<◌, ◌≤◌, true, false, cond, refl}
use Rattle.std.proofs.Common.{mul-add, mul-le-mul, arith}
use Rattle.std.proofs.lemmas.Bool.Decides.{nat_tests}
use Rattle.charge.specs.Charges.{by_lots, chargeable, highest, percent_of}

pub lots_few : (top rate price lots : ℕ) → chargeable top rate price lots ≡ true → lots ≤ 10000
lots_few top rate price lots h = grind (arith, nat_tests)

module _ (top each rate price : ℕ) where
  pub lots_none : (lots : ℕ) → chargeable top rate price lots ≡ false → by_lots top each rate price lots ≡ 0
  lots_none lots h = rw h refl

  pub lots_split : (a b : ℕ) → a + b ≤ 10000 → by_lots top each rate price a + by_lots top each rate price b ≤ by_lots top each rate price (a + b)
  lots_split a b h = let e = mul-add each a b in grind (arith, nat_tests)

  pub lots_bounded : (lots : ℕ) → (chargeable top rate price lots ≡ true → each ≤ 1000000000) → by_lots top each rate price lots ≤ highest
  lots_bounded lots few =
      (elim (chargeable top rate price lots) as (λ v. chargeable top rate price lots ≡ v → cond v (each * lots) 0 ≤ highest) [
        | true ↦ λ e. omega (arith, mul-le-mul (few e) (lots_few top rate price lots e))
        | false ↦ λ e. omega arith
      ]) refl

-- a price times a rate, and so much a lot times lots, within the limits
pub rated_bounded : (rate price lots : ℕ) → chargeable 10000 rate price lots ≡ true → price * rate ≤ 10000000000000
rated_bounded rate price lots h =
    let p : price ≤ 1000000000 = grind (arith, nat_tests) in
    let r : rate ≤ 10000 = grind (arith, nat_tests) in
    mul-le-mul p r

pub lots_fit : (each lots : ℕ) → each ≤ 1000000000 → lots ≤ 10000 → each * lots < 18446744073709551616
lots_fit each lots e l = omega (arith, mul-le-mul e l)

-- a lot's percentage is no more than its price can be
pub percent_bounded : (rate price lots : ℕ) → chargeable 10000 rate price lots ≡ true → percent_of rate price ≤ 1000000000
percent_bounded rate price lots h = omega (arith, rated_bounded rate price lots h)

pub rate_bounded : (rate price lots : ℕ) → chargeable 1000000000 rate price lots ≡ true → rate ≤ 1000000000
rate_bounded rate price lots h = grind (arith, nat_tests)
