-- What a report shows of a line's fault. Assumes nothing.
use Rattle.std.specs.Prelude.{ℕ}
use Rattle.rules.specs.declared.refusals.Layer.TheVariants as layers
use Rattle.rules.specs.declared.refusals.RefusalCode.{RefusalCode}
use Rattle.sheet.specs.declared.faults.LineFault.{LineFault}
use Rattle.sheet.specs.declared.faults.LineFault.TheVariants.{LongLine, UnknownVerb, FieldCount, NotInForm}

-- a fault of the sheet, with the place of a field or 0
abbrev pub of_sheet : ℕ → ℕ → RefusalCode
of_sheet n place = record { layer = layers.Sheet; number = n; place = place }

abbrev pub code : LineFault → RefusalCode
code LongLine = of_sheet 51 0
code UnknownVerb = of_sheet 52 0
code FieldCount = of_sheet 53 0
code (NotInForm place) = of_sheet 54 place
