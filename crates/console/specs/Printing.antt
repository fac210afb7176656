-- A day that is read from a reader and printed to a writer. Assumes nothing.
use Rattle.std.specs.Prelude.{◌≡◌, ◌⊎◌, ℕ, IfSome, List, Option, replicate, take}
use Rattle.std.specs.Io.KnownBytes.{Appends, Keeps}
use Rattle.charge.specs.Charges.{percent, percent_top}
use Rattle.report.specs.Days.{DayReported}

-- the report of a day by the percent rule, over 128 registers of money and 1,024 of goods, all empty at its start
pub record PercentDay (sheet text : List ℕ) : Type 0 where
  pub money : List ℕ
  pub goods : List ℕ
  pub day : DayReported percent_top percent (replicate 128 0) (replicate 1024 0) sheet text money goods

-- what a reader has left, and what a writer holds before and after, where they say: a sheet that is all of the one, and its report, which the other has grown by
pub record DayPrinted (left before after : Option (List ℕ)) : Type 0 where
  pub sheet : List ℕ
  pub read : IfSome left (λ bytes. sheet ≡ bytes)
  pub text : List ℕ
  pub reported : PercentDay sheet text
  pub printed : Appends before after text

-- what a writer holds has grown by a front of a text, which may be none or all of it
pub record AppendsFront (before after : Option (List ℕ)) (text : List ℕ) : Type 0 where
  pub len : ℕ
  pub written : Appends before after (take len text)

-- the same before and after a day that an error ended while its report was written: a sheet that is all of what the reader had left, and its report, of which the writer has a front
pub record ReportCut (left before after : Option (List ℕ)) : Type 0 where
  pub sheet : List ℕ
  pub read : IfSome left (λ bytes. sheet ≡ bytes)
  pub text : List ℕ
  pub reported : PercentDay sheet text
  pub printed : AppendsFront before after text

-- a day that an error ended: before its report was known, and the writer is as it was, or while that was written
abbrev pub DayCut : Option (List ℕ) → Option (List ℕ) → Option (List ℕ) → Type 0
DayCut left before after = Keeps before after ⊎ ReportCut left before after
