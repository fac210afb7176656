-- What a line reads as. Assumes nothing.
use Rattle.std.specs.Prelude.{ℕ, ◌+◌, cond, List, [], ◌∷◌, length, Some, None, Ok, Err, Option, Result, ◌==◌, nat_lt}
use Rattle.rules.specs.declared.calls.Call.TheVariants.{Deposit, Withdraw, Shift, DepositGoods, WithdrawGoods, Place, Cancel, Execute, Rerate, EndTrading, Settle, EndSession}
use Rattle.rules.specs.declared.contracts.Event.TheVariants.{Funding, Delivery, Default}
use Rattle.rules.specs.declared.rows.Row.{Row}
use Rattle.sheet.specs.declared.outcome.Line.{Line}
use Rattle.sheet.specs.declared.outcome.Line.TheVariants.{Instrument, Call}
use Rattle.sheet.specs.declared.faults.LineFault.{LineFault}
use Rattle.sheet.specs.declared.faults.LineFault.TheVariants.{LongLine, UnknownVerb, FieldCount, NotInForm}
use Rattle.sheet.specs.Forms.{Form, Value, value_in}
use Rattle.sheet.specs.Pieces.{parts, first_of, others_of}
use Rattle.sheet.specs.Verbs.{Verb, Ins, Dep, Wdr, Shf, Gin, Got, Ord, Cxl, Trd, Rte, Eot, Fnd, Dlv, Dft, Eod, forms_of, verb_in}

-- makes a line of a value for each field
abbrev pub Maker : List Form → Type 0
Maker [] = Line
Maker (f ∷ fs) = Value f → Maker fs

-- the line that each verb makes of its fields
abbrev pub made : (v : Verb) → Maker (forms_of v)
made Ins = λ n k w f d r. Instrument (record { number = n; kind = k; weight = w; funding = f; delivery = d; rate = r })
made Dep = λ m p a. Call (Deposit m p a)
made Wdr = λ m p a. Call (Withdraw m p a)
made Shf = λ m p a. Call (Shift m p a)
made Gin = λ m i kg. Call (DepositGoods m i kg)
made Got = λ m i kg. Call (WithdrawGoods m i kg)
made Ord = λ n m s i p l d. Call (Place (record { number = n; member = m; side = s; instrument = i; price = p; lots = l; last = d }))
made Cxl = λ n. Call (Cancel n)
made Trd = λ n b s p l. Call (Execute (record { contract = n; buy = b; sell = s; price = p; lots = l }))
made Rte = λ i r. Call (Rerate i r)
made Eot = Call EndTrading
made Fnd = λ n. Call (Settle n Funding)
made Dlv = λ n kg. Call (Settle n (Delivery kg))
made Dft = λ n. Call (Settle n Default)
made Eod = Call EndSession

-- a value goes on, and none is a fault at the place
abbrev pub then_at : {X Y : Type 0} → ℕ → Option X → (X → Result Y LineFault) → Result Y LineFault
then_at place None go = Err (NotInForm place)
then_at place (Some x) go = go x

-- the parts are read in turn, the first of them at the place
abbrev pub read_from : ℕ → (fs : List Form) → List (List ℕ) → Maker fs → Result Line LineFault
read_from place [] ps make = Ok make
read_from place (f ∷ fs) ps make = then_at place (value_in f (first_of ps)) (λ x. read_from (place + 1) fs (others_of ps) (make x))

-- a row that is read, or its fault, as what the line reads as
abbrev pub row_line : Result Row LineFault → Result Line LineFault
row_line (Ok r) = Ok (Instrument r)
row_line (Err e) = Err e

-- what the parts after a verb read as
abbrev pub line_in : Verb → List (List ℕ) → Result Line LineFault
line_in v ps = cond (length ps == length (forms_of v)) (read_from 1 (forms_of v) ps (made v)) (Err FieldCount)

-- the same where the verb may be unknown
abbrev pub by_verb : Option Verb → List (List ℕ) → Result Line LineFault
by_verb None ps = Err UnknownVerb
by_verb (Some v) ps = line_in v ps

-- a line has at most so many bytes, its feed apart
abbrev pub most_bytes : ℕ
most_bytes = 120

-- what a line reads as: its length, its verb, the count of its fields and then each field is looked at
abbrev pub read_line : List ℕ → Result Line LineFault
read_line bs = cond (nat_lt most_bytes (length bs)) (Err LongLine) (by_verb (verb_in (first_of (parts bs))) (others_of (parts bs)))
