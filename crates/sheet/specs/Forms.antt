-- The forms of a field: the values that each has, their texts, and what a text reads as. Assumes nothing.
use Rattle.std.specs.Prelude.{◌≡◌, ℕ, ◌^◌, ◌<◌, Bool, cond, not, ◌&&◌, ◌||◌, List, [], length, Some, None, codes, decimal, Option, Result, ◌==◌, ◌≢◌, nat_le, slice_index}
use Rattle.std.specs.Option as options
use Rattle.std.specs.Option.{option_map}
use Rattle.std.specs.Result as results
use Rattle.std.specs.Str.Parse.{digits_value}
use Rattle.std.specs.Str.{all_ascii_digits}
use Rattle.rules.specs.declared.calls.Account.{Account}
use Rattle.rules.specs.declared.calls.Account.TheVariants.{Position, Clearing}
use Rattle.rules.specs.declared.orders.Side.{Side}
use Rattle.rules.specs.declared.orders.Side.TheVariants.{Buy, Sell}
use Rattle.rules.specs.declared.rows.Kind.{Kind}
use Rattle.rules.specs.declared.rows.Kind.TheVariants.{Warehouse, Shipment}
use Rattle.sheet.specs.declared.faults.LineFault.{LineFault}
use Rattle.sheet.specs.declared.faults.LineFault.TheVariants.{NotInForm}

pub data Form : Type 0 where
  a_number : Form
  an_account : Form
  a_side : Form
  a_kind : Form
  a_last_day : Form

-- the values of a form; a last day may be left out
abbrev pub Value : Form → Type 0
Value a_number = ℕ
Value an_account = Account
Value a_side = Side
Value a_kind = Kind
Value a_last_day = Option ℕ

-- a number of a sheet has at most 16 digits
abbrev pub Short : ℕ → Type 0
Short n = n < 10 ^ 16

-- the value can stand on a sheet
abbrev pub Fits : (f : Form) → Value f → Type 0
Fits a_number n = Short n
Fits an_account x = Unit {0}
Fits a_side x = Unit {0}
Fits a_kind x = Unit {0}
Fits a_last_day None = Unit {0}
Fits a_last_day (Some d) = Short d

-- the text of each value
abbrev pub value_text : (f : Form) → Value f → List ℕ
value_text a_number n = decimal n
value_text an_account Position = codes "P"
value_text an_account Clearing = codes "C"
value_text a_side Buy = codes "B"
value_text a_side Sell = codes "S"
value_text a_kind Warehouse = codes "W"
value_text a_kind Shipment = codes "S"
value_text a_last_day None = []
value_text a_last_day (Some d) = decimal d

-- p is the text of a value of the form
abbrev pub InForm : Form → List ℕ → Type 0
InForm f p = (x : Value f) × Fits f x × (p ≡ value_text f x)

-- 1 to 16 digits, and no leading zero but in 0 itself
abbrev pub is_numeral : List ℕ → Bool
is_numeral p = all_ascii_digits p && (nat_le 1 (length p) && (nat_le (length p) 16 && (not (slice_index p 0 == 48) || length p == 1)))

-- the number that a text writes in base ten
unfoldable pub number_in : List ℕ → Option ℕ
number_in p = cond (is_numeral p) (Some (digits_value 10 p)) None

-- r is the number that p writes in base ten, if it writes one
abbrev pub ReadsNumber : List ℕ → Option ℕ → Type 0
ReadsNumber p r = options.MatchOption r ((n : ℕ) → Short n → p ≢ decimal n) (λ n. Short n × (p ≡ decimal n))

-- p is the letter a
abbrev pub is_letter : ℕ → List ℕ → Bool
is_letter a p = length p == 1 && slice_index p 0 == a

-- one letter of two, each with its value
abbrev pub letter_in : {X : Type 0} → ℕ → X → ℕ → X → List ℕ → Option X
letter_in a x b y p = cond (is_letter a p) (Some x) (cond (is_letter b p) (Some y) None)

-- the value that a text has in a form, if it is in it
abbrev pub value_in : (f : Form) → List ℕ → Option (Value f)
value_in a_number p = number_in p
value_in an_account p = letter_in 80 Position 67 Clearing p
value_in a_side p = letter_in 66 Buy 83 Sell p
value_in a_kind p = letter_in 87 Warehouse 83 Shipment p
value_in a_last_day p = cond (length p == 0) (Some None) (option_map Some (number_in p))

-- r is the value of the text, or else the fault at the field's place
abbrev pub ReadsAt : {X : Type 0} → (List ℕ → Option X) → List ℕ → ℕ → Result X LineFault → Type 0
ReadsAt value_of p place r = results.MatchResult r (λ x. value_of p ≡ Some x) (λ e. (value_of p ≡ None) × (e ≡ NotInForm place))
