-- The verbs, their words and their fields. Assumes nothing.
use Rattle.std.specs.Prelude.{ℕ, ◌+◌, Bool, true, cond, ◌&&◌, List, [], ◌∷◌, length, Some, None, codes, Option, ◌==◌, slice_index}
use Rattle.sheet.specs.Forms.{Form, a_number, an_account, a_side, a_kind, a_last_day}
use Rattle.sheet.specs.Pieces.{parts, first_of}

-- the verbs of a day sheet
pub data Verb : Type 0 where
  Ins : Verb
  Dep : Verb
  Wdr : Verb
  Shf : Verb
  Gin : Verb
  Got : Verb
  Ord : Verb
  Cxl : Verb
  Trd : Verb
  Rte : Verb
  Eot : Verb
  Fnd : Verb
  Dlv : Verb
  Dft : Verb
  Eod : Verb

-- the word of each verb
abbrev pub word : Verb → List ℕ
word Ins = codes "INS"
word Dep = codes "DEP"
word Wdr = codes "WDR"
word Shf = codes "SHF"
word Gin = codes "GIN"
word Got = codes "GOT"
word Ord = codes "ORD"
word Cxl = codes "CXL"
word Trd = codes "TRD"
word Rte = codes "RTE"
word Eot = codes "EOT"
word Fnd = codes "FND"
word Dlv = codes "DLV"
word Dft = codes "DFT"
word Eod = codes "EOD"

-- the forms of the fields after each verb
abbrev pub forms_of : Verb → List Form
forms_of Ins = a_number ∷ a_kind ∷ a_number ∷ a_number ∷ a_number ∷ a_number ∷ []
forms_of Dep = a_number ∷ an_account ∷ a_number ∷ []
forms_of Wdr = a_number ∷ an_account ∷ a_number ∷ []
forms_of Shf = a_number ∷ an_account ∷ a_number ∷ []
forms_of Gin = a_number ∷ a_number ∷ a_number ∷ []
forms_of Got = a_number ∷ a_number ∷ a_number ∷ []
forms_of Ord = a_number ∷ a_number ∷ a_side ∷ a_number ∷ a_number ∷ a_number ∷ a_last_day ∷ []
forms_of Cxl = a_number ∷ []
forms_of Trd = a_number ∷ a_number ∷ a_number ∷ a_number ∷ a_number ∷ []
forms_of Rte = a_number ∷ a_number ∷ []
forms_of Eot = []
forms_of Fnd = a_number ∷ []
forms_of Dlv = a_number ∷ a_number ∷ []
forms_of Dft = a_number ∷ []
forms_of Eod = []

-- the bytes from index i on begin with those of w
abbrev pub spelled_from : ℕ → List ℕ → List ℕ → Bool
spelled_from i [] bs = true
spelled_from i (c ∷ w) bs = slice_index bs i == c && spelled_from (i + 1) w bs

-- the text is the word w
abbrev pub is_word : List ℕ → List ℕ → Bool
is_word w bs = length bs == length w && spelled_from 0 w bs

-- every verb
abbrev pub verbs : List Verb
verbs = Ins ∷ Dep ∷ Wdr ∷ Shf ∷ Gin ∷ Got ∷ Ord ∷ Cxl ∷ Trd ∷ Rte ∷ Eot ∷ Fnd ∷ Dlv ∷ Dft ∷ Eod ∷ []

-- the first of some verbs that a text is the word of
abbrev pub first_spelled : List Verb → List ℕ → Option Verb
first_spelled [] p = None
first_spelled (v ∷ vs) p = cond (is_word (word v) p) (Some v) (first_spelled vs p)

-- the verb that a text is the word of, if there is one
abbrev pub verb_in : List ℕ → Option Verb
verb_in p = first_spelled verbs p

-- the line's first field is INS
abbrev pub names_row : List ℕ → Bool
names_row bs = is_word (word Ins) (first_of (parts bs))
