-- The text of a report. Assumes nothing.
use Rattle.std.specs.Prelude.{ℕ, List, ◌++◌, ℤ, codes, decimal}
use Rattle.std.specs.Fmt.{signed_decimal}
use Rattle.std.specs.List.{flat_map}
use Rattle.rules.specs.Refusals.{letter}
use Rattle.report.specs.declared.lines.ReportLine.{ReportLine}
use Rattle.report.specs.declared.lines.ReportLine.TheVariants.{Accepted, Refused, Member}

-- a comma and a number; a number below zero has a minus sign
abbrev pub field : ℕ → List ℕ
field n = codes "," ++ decimal n

abbrev pub signed_field : ℤ → List ℕ
signed_field z = codes "," ++ signed_decimal z

-- a line, without its feed
abbrev pub shown_line : ReportLine → List ℕ
shown_line (Accepted n v) = decimal n ++ codes ",A" ++ field v.first ++ field v.second
shown_line (Refused n s) = decimal n ++ codes ",R," ++ letter s.layer ++ field s.number ++ field s.place
shown_line (Member m p c fp fc) = codes "M" ++ field m ++ field p ++ field c ++ signed_field fp ++ signed_field fc

-- a line ends in a feed
abbrev pub line_text : ReportLine → List ℕ
line_text l = shown_line l ++ codes "\n"

abbrev pub report_text : List ReportLine → List ℕ
report_text lines = flat_map line_text lines
