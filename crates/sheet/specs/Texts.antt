-- The text of each line. Assumes nothing.
use Rattle.std.specs.Prelude.{◌≡◌, ℕ, List, [], ◌∷◌, Ok, Result}
use Rattle.rules.specs.declared.calls.Call.TheVariants.{Deposit, Withdraw, Shift, DepositGoods, WithdrawGoods, Place, Cancel, Execute, Rerate, EndTrading, Settle, EndSession}
use Rattle.rules.specs.declared.contracts.Event.TheVariants.{Funding, Delivery, Default}
use Rattle.sheet.specs.declared.outcome.Line.{Line}
use Rattle.sheet.specs.declared.outcome.Line.TheVariants.{Instrument, Call}
use Rattle.sheet.specs.declared.faults.LineFault.{LineFault}
use Rattle.sheet.specs.Forms.{Form, Value, Fits, value_text}
use Rattle.sheet.specs.Pieces.{with_commas}
use Rattle.sheet.specs.Verbs.{Verb, Ins, Dep, Wdr, Shf, Gin, Got, Ord, Cxl, Trd, Rte, Eot, Fnd, Dlv, Dft, Eod, word, forms_of}

-- a value for each field
abbrev pub Values : List Form → Type 0
Values [] = Unit {0}
Values (f ∷ fs) = Value f × Values fs

-- their texts
abbrev pub texts : (fs : List Form) → Values fs → List (List ℕ)
texts [] xs = []
texts (f ∷ fs) xs = value_text f xs.0 ∷ texts fs xs.1

-- each of them fits
abbrev pub AllFit : (fs : List Form) → Values fs → Type 0
AllFit [] xs = Unit {0}
AllFit (f ∷ fs) xs = Fits f xs.0 × AllFit fs xs.1

-- a verb with a value for each of its fields
abbrev pub Entry : Type 0
Entry = (v : Verb) × Values (forms_of v)

-- how each line is entered on a sheet
abbrev pub entry_of : Line → Entry
entry_of (Instrument r) = (Ins, (r.number, (r.kind, (r.weight, (r.funding, (r.delivery, (r.rate, tt)))))))
entry_of (Call (Deposit m p a)) = (Dep, (m, (p, (a, tt))))
entry_of (Call (Withdraw m p a)) = (Wdr, (m, (p, (a, tt))))
entry_of (Call (Shift m p a)) = (Shf, (m, (p, (a, tt))))
entry_of (Call (DepositGoods m i kg)) = (Gin, (m, (i, (kg, tt))))
entry_of (Call (WithdrawGoods m i kg)) = (Got, (m, (i, (kg, tt))))
entry_of (Call (Place o)) = (Ord, (o.number, (o.member, (o.side, (o.instrument, (o.price, (o.lots, (o.last, tt))))))))
entry_of (Call (Cancel n)) = (Cxl, (n, tt))
entry_of (Call (Execute t)) = (Trd, (t.contract, (t.buy, (t.sell, (t.price, (t.lots, tt))))))
entry_of (Call (Rerate i r)) = (Rte, (i, (r, tt)))
entry_of (Call EndTrading) = (Eot, tt)
entry_of (Call (Settle n Funding)) = (Fnd, (n, tt))
entry_of (Call (Settle n (Delivery kg))) = (Dlv, (n, (kg, tt)))
entry_of (Call (Settle n Default)) = (Dft, (n, tt))
entry_of (Call EndSession) = (Eod, tt)

-- the verb's word and the texts of its fields, with commas between
abbrev pub entry_text : Entry → List ℕ
entry_text e = with_commas (word e.0 ∷ texts (forms_of e.0) e.1)

-- the text of a line
abbrev pub line_text : Line → List ℕ
line_text l = entry_text (entry_of l)

-- each number of the line has at most 16 digits
abbrev pub Fit : Line → Type 0
Fit l = AllFit (forms_of (entry_of l).0) (entry_of l).1

-- the bytes are read as a line exactly when they are its text
abbrev pub ReadsExactly : List ℕ → Result Line LineFault → Type 0
ReadsExactly bs r = (l : Line) → (r ≡ Ok l → Fit l × (bs ≡ line_text l)) × (Fit l → bs ≡ line_text l → r ≡ Ok l)
