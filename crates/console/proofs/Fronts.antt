-- A report on as much of a sheet as shows that it is too long is a report on the sheet.
use Rattle.std.proofs.Common.{◌≡◌, ℕ, ◌<◌, Bool, IfSome, List, None, Option, Some, true, length, replicate, take, sym, refl, ◌∙◌, subst, inl, inr, arith}
use Rattle.std.proofs.lemmas.Bool.{cases_lt, lt-ltb}
use Rattle.std.proofs.lemmas.List.{length-take-le, take_all}
use Rattle.charge.specs.Charges.{percent, percent_top}
use Rattle.report.specs.Days.{DayReportedIf}
use Rattle.report.specs.Reports.{too_long}
use Rattle.console.specs.Printing.{PercentDay}

module _ (bytes text money goods : List ℕ) where
  abbrev Reported : List ℕ → Bool → Type 0
  Reported sheet t = DayReportedIf percent_top percent (replicate 128 0) (replicate 1024 0) sheet text money goods t

  front_long : 65537 < length bytes → too_long (take 65537 bytes) ≡ too_long bytes
  front_long long =
      let front : 65536 < length (take 65537 bytes) = omega (arith, length-take-le 65537 bytes (omega (arith, long))) in
      lt-ltb 65536 (length (take 65537 bytes)) front ∙ sym (lt-ltb 65536 (length bytes) (omega (arith, long)))

  refused_both : (s t : Bool) → s ≡ true → t ≡ true → Reported (take 65537 bytes) s → Reported bytes t
  refused_both s t e f h = rw f (rw e at h)

  front : Reported (take 65537 bytes) (too_long (take 65537 bytes)) → Reported bytes (too_long bytes)
  front h = elim (cases_lt 65537 (length bytes)) [
    | inl long ↦
        let too : too_long bytes ≡ true = lt-ltb 65536 (length bytes) (omega (arith, long)) in
        refused_both (too_long (take 65537 bytes)) (too_long bytes) (front_long long ∙ too) too h
    | inr short ↦ subst (λ bs. Reported bs (too_long bs)) (take_all 65537 bytes short) h
  ]

front_day : (bytes text : List ℕ) → PercentDay (take 65537 bytes) text → PercentDay bytes text
front_day bytes text p = record { money = p.money; goods = p.goods; day = front bytes text p.money p.goods p.day }

-- a sheet that was read so far, and one that is all of what a reader had left
pub record Read (left : Option (List ℕ)) (text : List ℕ) : Type 0 where
  pub sheet : List ℕ
  pub all : IfSome left (λ bytes. sheet ≡ bytes)
  pub day : PercentDay sheet text

pub whole : (left : Option (List ℕ)) (sheet text run : List ℕ) → IfSome left (λ bytes. sheet ≡ take 65537 bytes) → run ≡ sheet → PercentDay run text → Read left text
whole None sheet text run read same day = record { sheet = run; all = tt; day = day }
whole (Some bytes) sheet text run read same day = record { sheet = bytes; all = refl; day = front_day bytes text (subst (λ bs. PercentDay bs text) (same ∙ read) day) }
