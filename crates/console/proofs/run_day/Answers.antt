use Rattle.std.proofs.Common.{ℕ, List, Option, Result, Ok, Err, OnErr, length, subst, sym, inl, inr}
use Rattle.std.proofs.Math.Seq.{take-length}
use Rattle.std.proofs.KnownBytes.{Appends-kept, Keeps-refl}
use Rattle.std.specs.Io.KnownBytes.{Appends}
use Rattle.console.specs.Printing.{AppendsFront, DayPrinted, ReportCut}
use Rattle.console.proofs.Fronts.{Read, whole}
use Rattle.console.proofs.run_day.Goals as goal

on_err : {T E P : Type 0} (r : Result T E) → P → OnErr r P
on_err (Ok v) p = tt
on_err (Err e) p = p

module _ (left before after : Option (List ℕ)) (text : List ℕ) (d : Read left text) where
  printed : Appends before after text → DayPrinted left before after
  printed p = record { sheet = d.sheet; read = d.all; text = text; reported = d.day; printed = p }

  cut : AppendsFront before after text → ReportCut left before after
  cut p = record { sheet = d.sheet; read = d.all; text = text; reported = d.day; printed = p }

-- a writer that took all of a text, and then failed
all_taken : (before after : Option (List ℕ)) (text : List ℕ) → Appends before after text → AppendsFront before after text
all_taken before after text p = record { len = length text; written = subst (Appends before after) (sym (take-length text)) p }

pub returns-in_err-text-clause-err : goal.returns-in_err-text-clause-err
returns-in_err-text-clause-err g c = on_err c.from_residual-in_err-text.result (inl (Keeps-refl _))

pub returns-in_err-write_text-clause-err : goal.returns-in_err-write_text-clause-err
returns-in_err-write_text-clause-err g c =
    let day = whole _ _ _ _ c.in_ok-sheet.ensures c.as_slice.ensures.value c.in_ok-text.ensures in
    let front = subst (AppendsFront _ _) c.as_bytes.ensures.value c.in_err-write_text.ensures.err in
    on_err c.from_residual-in_err-write_text.result (inr (cut _ _ _ _ day front))

pub returns-in_err-flush-clause-err : goal.returns-in_err-flush-clause-err
returns-in_err-flush-clause-err g c =
    let day = whole _ _ _ _ c.in_ok-sheet.ensures c.as_slice.ensures.value c.in_ok-text.ensures in
    let all = subst (Appends _ _) c.as_bytes.ensures.value c.in_ok-write_text.ensures.ok in
    on_err c.from_residual-in_err-flush.result (inr (cut _ _ _ _ day (all_taken _ _ _ (Appends-kept _ _ _ _ all c.in_err-flush.ensures.bytes))))

pub returns-clause-ok : goal.returns-clause-ok
returns-clause-ok g c =
    let day = whole _ _ _ _ c.in_ok-sheet.ensures c.as_slice.ensures.value c.in_ok-text.ensures in
    let all = subst (Appends _ _) c.as_bytes.ensures.value c.in_ok-write_text.ensures.ok in
    printed _ _ _ _ day (Appends-kept _ _ _ _ all c.in_ok-flush.ensures.bytes)
