-- What is wrong with a line: the first of the four faults. Assumes nothing.
use Rattle.std.specs.Prelude.{◌≡◌, ℕ, ◌+◌, ◌<◌, ◌≤◌, ◌⊎◌, List, [], ◌∷◌, length, Result, MatchResult, ◌≢◌}
use Rattle.sheet.specs.declared.outcome.Line.{Line}
use Rattle.sheet.specs.declared.faults.LineFault.{LineFault}
use Rattle.sheet.specs.declared.faults.LineFault.TheVariants.{LongLine, UnknownVerb, FieldCount, NotInForm}
use Rattle.sheet.specs.Forms.{Form, InForm}
use Rattle.sheet.specs.Lines.{most_bytes}
use Rattle.sheet.specs.Pieces.{parts, first_of, others_of}
use Rattle.sheet.specs.Texts.{Fit, line_text}
use Rattle.sheet.specs.Verbs.{Verb, word, forms_of}

-- k is the first place whose part is not in its form; the parts begin at place
abbrev pub FirstMisfit : ℕ → List Form → List (List ℕ) → ℕ → Type 0
FirstMisfit place [] ps k = ⊥
FirstMisfit place (f ∷ fs) ps k = ((InForm f (first_of ps) → ⊥) × (k ≡ place)) ⊎ (InForm f (first_of ps) × FirstMisfit (place + 1) fs (others_of ps) k)

-- the line is not too long, and its first part is the verb's word
abbrev pub Begins : List ℕ → Verb → Type 0
Begins bs v = (length bs ≤ most_bytes) × (first_of (parts bs) ≡ word v)

-- the line has the fault, and none that comes before it
abbrev pub Faulty : List ℕ → LineFault → Type 0
Faulty bs LongLine = most_bytes < length bs
Faulty bs UnknownVerb = (length bs ≤ most_bytes) × ((v : Verb) → first_of (parts bs) ≢ word v)
Faulty bs FieldCount = (v : Verb) × Begins bs v × (length (others_of (parts bs)) ≢ length (forms_of v))
Faulty bs (NotInForm k) = (v : Verb) × Begins bs v × (length (others_of (parts bs)) ≡ length (forms_of v)) × FirstMisfit 1 (forms_of v) (others_of (parts bs)) k

-- the bytes are the text of the line read, or have the fault
abbrev pub Reading : List ℕ → Result Line LineFault → Type 0
Reading bs r = MatchResult r (λ l. Fit l × (bs ≡ line_text l)) (λ e. Faulty bs e)
