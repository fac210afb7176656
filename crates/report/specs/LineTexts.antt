-- What a text that is written from its end has. Assumes nothing.
use Rattle.std.specs.Prelude.{ℕ, List, drop}
use Rattle.report.specs.declared.texts.LineText.{LineText}

abbrev pub text_of : LineText → List ℕ
text_of t = drop t.start t.bytes
