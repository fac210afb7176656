-- The count of short members after a rating, as a list of all numbers has it.
use Rattle.std.proofs.Common.{◌≡◌, ℕ, zero, suc, ◌+◌, Bool, cond, [], Ok, refl, ap, ◌∙◌, count_by, arith}
use Rattle.std.specs.List.{range_with_len}
use Rattle.std.proofs.lemmas.List.Sums.{sum_by-cons}
use Rattle.rules.specs.declared.calls.Call.TheVariants.{Rerate}
use Rattle.rules.specs.Answering.{one}
use Rattle.rules.specs.Checks.{checks}
use Rattle.rules.specs.Effects.{section_after}
use Rattle.rules.specs.Entries.{Entries, no_entry}
use Rattle.rules.specs.Limits.{Section, Ledger, is_short, short_below}
use Rattle.rules.specs.Rulings.{allowed}
use Rattle.rules.specs.Runs.{Called, Snapshot}
use Rattle.book.proofs.Calls.{accepted, with_section}

-- one number more at the end
count_more : (p : ℕ → Bool) (a n m : ℕ) → a + n ≡ m → count_by p (range_with_len a (suc n)) ≡ count_by p (range_with_len a n) + cond (p m) 1 0
count_more p a zero m is =
    let same : a ≡ m = omega (arith, is) in
    omega (arith, sum_by-cons (λ (x : ℕ). cond {A = ℕ} (p x) 1 0) a [], ap (λ (x : ℕ). cond {A = ℕ} (p x) 1 0) same)
count_more p a (suc n) m is =
    let next = sum_by-cons (λ (x : ℕ). cond {A = ℕ} (p x) 1 0) a in
    omega (arith, count_more p (a + 1) n m (omega (arith, is)), next (range_with_len (a + 1) (suc n)), next (range_with_len (a + 1) n))

short_among : (b : Ledger) (n : ℕ) → count_by (is_short b) (range_with_len 0 n) ≡ short_below b n
unfolding short_below
short_among b zero = refl
short_among b (suc n) = count_more (is_short b) 0 n n (omega arith) ∙ ap (λ k. k + cond (is_short b n) 1 0) (short_among b n)

-- a rating that the section made answers the count after it
pub rated : (went : Entries → Type 0) (p : Snapshot) (i rate : ℕ) (d : Section) → went no_entry → allowed (checks p.ledger (Rerate i rate)) ≡ Ok tt → d ≡ section_after p.ledger (Rerate i rate)
    → (n : ℕ) → n ≡ count_by (is_short (with_section p d).ledger) (range_with_len 0 64) → Called went p (Rerate i rate) (Ok (one n)) (with_section p d)
rated went p i rate d same ok is n count =
    let shorts = count ∙ short_among (with_section p d).ledger 64 ∙ ap (λ x. short_below (with_section p x).ledger 64) is in
    accepted went p (Rerate i rate) same refl refl (one n) d ok (ap one shorts) is
