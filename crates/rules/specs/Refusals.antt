-- The number of each refusal, and what a report shows of it. Assumes nothing.
use Rattle.std.specs.Prelude.{ℕ, List, codes}
use Rattle.keeper.specs.Meaning.{number as keeper_number}
use Rattle.rules.specs.declared.refusals.EntryFault.{EntryFault}
use Rattle.rules.specs.declared.refusals.Layer.{Layer}
use Rattle.rules.specs.declared.refusals.Layer.TheVariants as layers
use Rattle.rules.specs.declared.refusals.RefusalCode.{RefusalCode}
use Rattle.rules.specs.declared.refusals.Refusal.{Refusal}
use Rattle.rules.specs.declared.refusals.Refusal.TheVariants.{UnknownMember, NoInstrument, BadValue, FreeLimit, PastDay, OrderNumber, OrdersFull, OrderNotLive, Mismatch, BadLots, ContractNumber, ContractsFull, ContractNotLive, ContractState, WrongDay, Money, Goods}

-- the book's number of each, whichever keeper's fault it carries
abbrev pub number : Refusal → ℕ
number UnknownMember = 11
number NoInstrument = 12
number BadValue = 13
number FreeLimit = 15
number PastDay = 16
number OrderNumber = 21
number OrdersFull = 22
number OrderNotLive = 23
number Mismatch = 24
number BadLots = 25
number ContractNumber = 26
number ContractsFull = 27
number ContractNotLive = 31
number ContractState = 32
number WrongDay = 33
number (Money f) = 41
number (Goods f) = 42

-- a refusal by the book itself
abbrev pub of_book : ℕ → RefusalCode
of_book n = record { layer = layers.Book; number = n; place = 0 }

-- an entry that the keeper of a layer refused
abbrev pub code_at : Layer → EntryFault → RefusalCode
code_at l f = record { layer = l; number = keeper_number f.fault; place = f.register }

-- layer, number and register: of a keeper's refusal the keeper's own number and the register, else the book's number and 0
abbrev pub code : Refusal → RefusalCode
code (Money f) = code_at layers.Money f
code (Goods f) = code_at layers.Goods f
code e = of_book (number e)

-- the letter that a report shows of a layer
abbrev pub letter : Layer → List ℕ
letter layers.Sheet = codes "S"
letter layers.Book = codes "B"
letter layers.Money = codes "M"
letter layers.Goods = codes "G"
