use Rattle.std.proofs.Common.{◌-◌, drop, arith, take_all, length-drop}
use Rattle.std.proofs.lemmas.Str.{IsUtf8-from_ascii}
use Rattle.report.proofs.texts.LineText.as_str.Goals as goal

pub from_utf8_unchecked-requires : goal.from_utf8_unchecked-requires
from_utf8_unchecked-requires c =
    let t = c.args.self.now in
    IsUtf8-from_ascii _ (rw (take_all (111 - t.start) (drop t.start t.bytes) (omega (arith, length-drop t.start t.bytes))) t.ascii)
