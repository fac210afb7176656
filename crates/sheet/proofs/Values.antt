-- The laws of each form: a text is read as a value exactly when it is the value's text; texts are short and have no comma.
use Rattle.std.proofs.Common.{◌≡◌, ℕ, suc, ◌<◌, ◌≤◌, Bool, true, false, cond, eqb, List, [], ◌∷◌, length, get_or, Some, None, decimal, Option, refl, ap, ◌∙◌, subst, arith}
use Rattle.std.specs.Option.{option_map}
use Rattle.std.specs.Int.{IsInRange}
use Rattle.std.proofs.lemmas.Fmt.{decimal_nonempty, digits_decimal, length-decimal-le}
use Rattle.std.proofs.lemmas.List.{nil_from_length}
use Rattle.std.proofs.lemmas.Bool.{and_from, and_parts, cond-false, eqb-true, false≢true, ne_eqb, not_from_false}
use Rattle.rules.specs.declared.calls.Account.TheVariants.{Position, Clearing}
use Rattle.rules.specs.declared.orders.Side.TheVariants.{Buy, Sell}
use Rattle.rules.specs.declared.rows.Kind.TheVariants.{Warehouse, Shipment}
use Rattle.sheet.specs.Forms.{Form, a_number, an_account, a_side, a_kind, a_last_day, Value, Short, Fits, value_text, value_in, InForm, number_in, letter_in, is_letter}
use Rattle.sheet.specs.Pieces.{lacks}
use Rattle.sheet.proofs.Numbers.{places, number_in-decimal, number_in_gives}

-- one letter of two
only : (a : ℕ) (p : List ℕ) → is_letter a p ≡ true → p ≡ a ∷ []
only a [] e = absurd (false≢true e)
only a (c ∷ []) e = ap (λ b. b ∷ []) (eqb-true c a e)
only a (c ∷ d ∷ p) e = let h = eqb-true (length (c ∷ d ∷ p)) 1 (and_parts (eqb (length (c ∷ d ∷ p)) 1) (eqb c a) e).0 in absurd (omega arith)

letter : {X : Type 0} (text : X → List ℕ) (a : ℕ) (x : X) (b : ℕ) (y : X) (p : List ℕ) (z : X) → text x ≡ a ∷ [] → text y ≡ b ∷ [] → letter_in a x b y p ≡ Some z → p ≡ text z
letter text a x b y p z tx ty e = by (is_letter a p) (is_letter b p) refl refl e
  where
    by : (s t : Bool) → is_letter a p ≡ s → is_letter b p ≡ t → cond s (Some x) (cond t (Some y) None) ≡ Some z → p ≡ text z
    by true t h k e = let is = only a p h in cc
    by false true h k e = let is = only b p k in cc
    by false false h k e = cc

day_by : (p : List ℕ) (x : Option ℕ) (t : Bool) (o : Option ℕ) → eqb (length p) 0 ≡ t → number_in p ≡ o → cond t (Some None) (option_map Some o) ≡ Some x → Fits a_last_day x × (p ≡ value_text a_last_day x)
day_by p x true o s h e = let v : None ≡ x = cc in subst (λ d. Fits a_last_day d × (p ≡ value_text a_last_day d)) v (tt, nil_from_length p (eqb-true _ 0 s))
day_by p x false None s h e = cc
day_by p x false (Some n) s h e = let v : Some n ≡ x = cc in subst (λ d. Fits a_last_day d × (p ≡ value_text a_last_day d)) v (number_in_gives p n h)

pub gives : (f : Form) (p : List ℕ) (x : Value f) → value_in f p ≡ Some x → Fits f x × (p ≡ value_text f x)
gives a_number p x e = number_in_gives p x e
gives an_account p x e = (tt, letter (value_text an_account) 80 Position 67 Clearing p x refl refl e)
gives a_side p x e = (tt, letter (value_text a_side) 66 Buy 83 Sell p x refl refl e)
gives a_kind p x e = (tt, letter (value_text a_kind) 87 Warehouse 83 Shipment p x refl refl e)
gives a_last_day p x e = day_by p x (eqb (length p) 0) (number_in p) refl refl e

pub back : (f : Form) (x : Value f) → Fits f x → value_in f (value_text f x) ≡ Some x
back a_number n h = number_in-decimal n h
back an_account Position h = refl
back an_account Clearing h = refl
back a_side Buy h = refl
back a_side Sell h = refl
back a_kind Warehouse h = refl
back a_kind Shipment h = refl
back a_last_day None h = refl
back a_last_day (Some d) h = cond-false _ _ _ (ne_eqb (length (decimal d)) 0 (λ z. let l = decimal_nonempty d (omega arith) in omega arith)) ∙ ap (option_map Some) (number_in-decimal d h)

-- what is not read is not in the form
pub misfit : (f : Form) (p : List ℕ) → value_in f p ≡ None → InForm f p → ⊥
misfit f p e h = cc (e, ap (value_in f) h.2, back f h.0 h.1)

-- no comma
digits_lack : (p : List ℕ) → ((i : ℕ) → i < length p → IsInRange 48 57 (get_or p i 0)) → lacks 44 p ≡ true
digits_lack [] h = refl
digits_lack (b ∷ p) h = and_from _ _ (not_from_false _ (ne_eqb b 44 (λ e. let k = h 0 (omega arith) in omega arith))) (digits_lack p (λ i l. h (suc i) (omega arith)))

number_lacks : (n : ℕ) → Short n → lacks 44 (decimal n) ≡ true
number_lacks n h = digits_lack (decimal n) (digits_decimal places n (omega arith))

pub no_comma : (f : Form) (x : Value f) → Fits f x → lacks 44 (value_text f x) ≡ true
no_comma a_number n h = number_lacks n h
no_comma an_account Position h = refl
no_comma an_account Clearing h = refl
no_comma a_side Buy h = refl
no_comma a_side Sell h = refl
no_comma a_kind Warehouse h = refl
no_comma a_kind Shipment h = refl
no_comma a_last_day None h = refl
no_comma a_last_day (Some d) h = number_lacks d h

-- the bytes that a text of the form has at most
abbrev pub most : Form → ℕ
most a_number = 16
most an_account = 1
most a_side = 1
most a_kind = 1
most a_last_day = 16

number_long : (n : ℕ) → Short n → length (decimal n) ≤ 16
number_long n h = length-decimal-le 16 n (omega arith) h (omega arith)

pub at_most : (f : Form) (x : Value f) → Fits f x → length (value_text f x) ≤ most f
at_most a_number n h = number_long n h
at_most an_account Position h = omega arith
at_most an_account Clearing h = omega arith
at_most a_side Buy h = omega arith
at_most a_side Sell h = omega arith
at_most a_kind Warehouse h = omega arith
at_most a_kind Shipment h = omega arith
at_most a_last_day None h = omega arith
at_most a_last_day (Some d) h = number_long d h
