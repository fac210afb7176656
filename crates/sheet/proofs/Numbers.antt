-- Which bytes write a number of the sheet.
use Rattle.std.proofs.Common.{◌≡◌, ℕ, ◌+◌, ◌*◌, ◌^◌, ◌<◌, ◌≤◌, Bool, true, false, cond, List, length, get_or, take, Some, None, decimal, Option, sym, refl, ap, ◌∙◌, subst, ⊎_elim, arith, length-take, Bor}
use Rattle.std.specs.Str.Parse.{AllDigits, digits_value}
use Rattle.std.specs.Int.{IsInRange}
use Rattle.std.specs.Char.{digit_value}
use Rattle.std.proofs.lemmas.Int.Digits.{digits_more, digits_value_more}
use Rattle.std.proofs.lemmas.List.{take_all}
use Rattle.std.proofs.lemmas.Bool.Decides as ways
use Rattle.std.proofs.lemmas.Fmt.{decimal_nonempty, decimal_digit, length-decimal-le, first_decimal, digits_decimal, digits_value-decimal, decimal-digits_value}
use Rattle.std.proofs.lemmas.Str.Parse.{IsNumeralModel, numerals_by_value, tells_digits, tells_by_index, tells_all_ascii_digits, digits_value_short}
use Rattle.std.proofs.lemmas.Bool.{cases_lt, and_from, and_left, and_parts, both_ways, cond-true, cond-false, false_from_ne_true, leb-true, not-true}
use Rattle.std.specs.Str.{all_ascii_digits}
use Rattle.sheet.specs.declared.tokens.Field.{Field}
use Rattle.sheet.specs.declared.tokens.Field.TheVariants.{Word, Number, Empty}
use Rattle.sheet.specs.Tokens.{is_classified, field_text}
use Rattle.sheet.specs.Forms.{Short, is_numeral, number_in, ReadsNumber}

own : IsNumeralModel (AllDigits 10) (digits_value 10)
own = numerals_by_value _ tells_digits

tells : IsNumeralModel (λ ds. all_ascii_digits ds ≡ true) (digits_value 10)
tells = numerals_by_value _ tells_all_ascii_digits

pub places : IsNumeralModel (λ ds. (i : ℕ) → i < length ds → IsInRange 48 57 (get_or ds i 0)) (digits_value 10)
places = numerals_by_value _ tells_by_index

-- the text of a number is a numeral
small : (n : ℕ) → Short n → n < 2 ^ 64
small n h = omega arith

is_numeral-decimal : (n : ℕ) → Short n → is_numeral (decimal n) ≡ true
is_numeral-decimal n h =
    let some = decimal_nonempty n (small n h) in
    let few = length-decimal-le 16 n (omega arith) h (small n h) in
    let plain : get_or (decimal n) 0 0 ≡ 48 → length (decimal n) ≡ 1 = λ z. ⊎_elim (λ l. absurd (omega (arith, first_decimal n l (small n h)))) (λ l. ap length (decimal_digit n (omega arith))) (cases_lt 0 n) in
    and_from _ _ (digits_decimal tells n (small n h)) (grind (arith, ways.nat_tests))

pub number_in-decimal : (n : ℕ) → Short n → number_in (decimal n) ≡ Some n
unfolding number_in
number_in-decimal n h = cond-true _ _ _ (is_numeral-decimal n h) ∙ ap Some (digits_value-decimal tells n (small n h))

-- and a numeral is the text of its value
is_numeral_gives : (bs : List ℕ) → is_numeral bs ≡ true → Short (digits_value 10 bs) × (bs ≡ decimal (digits_value 10 bs))
is_numeral_gives bs t =
    let a = and_parts _ _ t in
    let ds = tells.to bs a.0 in
    let some : 0 < length bs = grind (arith, ways.nat_tests) in
    let few : length bs ≤ 16 = grind (arith, ways.nat_tests) in
    let plain : get_or bs 0 0 ≡ 48 → length bs ≡ 1 = λ z. grind (arith, ways.nat_tests) in
    let small : digits_value 10 bs < 10 ^ 16 = digits_value_short own bs 16 ds few in
    (small, sym (decimal-digits_value own bs ds some plain (omega arith)))

given_by : (bs : List ℕ) (n : ℕ) (t : Bool) → is_numeral bs ≡ t → cond t (Some (digits_value 10 bs)) None ≡ Some n → Short n × (bs ≡ decimal n)
given_by bs n true s e = let v : digits_value 10 bs ≡ n = cc in subst (λ m. Short m × (bs ≡ decimal m)) v (is_numeral_gives bs s)
given_by bs n false s e = cc

pub number_in_gives : (bs : List ℕ) (n : ℕ) → number_in bs ≡ Some n → Short n × (bs ≡ decimal n)
unfolding number_in
number_in_gives bs n e = given_by bs n (is_numeral bs) refl e

-- what is read
pub number_is : (bs : List ℕ) (r : Option ℕ) → ReadsNumber bs r → r ≡ number_in bs
number_is bs (Some n) h = sym (ap number_in h.1 ∙ number_in-decimal n h.0)
number_is bs None h = by (number_in bs) refl
  where
    by : (o : Option ℕ) → number_in bs ≡ o → None ≡ o
    by None e = refl
    by (Some n) e = let g = number_in_gives bs n e in absurd (h n g.0 g.1)

pub no_numeral : (bs : List ℕ) → is_numeral bs ≡ false → (n : ℕ) → Short n → bs ≡ decimal n → ⊥
no_numeral bs f n h e = both_ways _ f (ap is_numeral e ∙ is_numeral-decimal n h)

pub mixed : (bs : List ℕ) (i : ℕ) → i < length bs → (IsInRange 48 57 (get_or bs i 0) → ⊥) → is_numeral bs ≡ false
mixed bs i l out = and_left _ _ (false_from_ne_true _ (λ t. out (places.from bs (tells.to bs t) i l)))

-- the digits before i; one more still fits 64 bits
pub sofar : (bs : List ℕ) (i : ℕ) → i ≤ 18 → AllDigits 10 (take i bs) → digits_value 10 (take i bs) < 10 ^ 18
sofar bs i few ds = digits_value_short own (take i bs) 18 ds (omega (arith, length-take i bs))

pub one_more : (bs : List ℕ) (i n d : ℕ) → i < length bs → digit_value (get_or bs i 0) < 10 → d ≡ digit_value (get_or bs i 0) → AllDigits 10 (take i bs) → n ≡ digits_value 10 (take i bs) → AllDigits 10 (take (i + 1) bs) × (n * 10 + d ≡ digits_value 10 (take (i + 1) bs))
one_more bs i n d l h e ds v = (digits_more 10 bs i l ds h, omega (arith, digits_value_more 10 bs i l))

-- all of them
pub reads : (bs : List ℕ) (i n : ℕ) → length bs ≤ i → AllDigits 10 (take i bs) → n ≡ digits_value 10 (take i bs) → 0 < length bs → length bs ≤ 16 → (get_or bs 0 0 ≡ 48 → length bs ≡ 1) → Short n × (bs ≡ decimal n)
reads bs i n l ds v some few plain =
    let e = take_all i bs l in
    let ds : AllDigits 10 bs = subst (AllDigits 10) e ds in
    let v : digits_value 10 bs ≡ n = sym (v ∙ ap (digits_value 10) e) in
    subst (λ m. Short m × (bs ≡ decimal m)) v (is_numeral_gives bs (and_from _ _ (tells.from bs ds) (grind (arith, ways.nat_tests))))

-- a field of another class is no number
pub no_number : (f : Field) → is_classified f ≡ true → ((t : Bor (List ℕ)) → f ≡ Number t → ⊥) → number_in (field_text f) ≡ None
unfolding number_in
no_number (Word t) s ne =
    let p = and_parts _ _ s in
    cond-false _ _ _ (mixed t.now 0 (leb-true 1 _ p.0) (λ h. let n = not-true _ p.1 in grind (arith, ways.nat_tests)))
no_number (Number t) s ne = absurd (ne t refl)
no_number Empty s ne = refl
