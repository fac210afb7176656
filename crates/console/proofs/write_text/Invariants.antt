-- So much of the text is written, and nothing else.
use Rattle.std.proofs.Common.{◌≤◌, length, take}
use Rattle.std.specs.Io.KnownBytes.{Appends}
use Rattle.console.proofs.write_text.Given as goal

abbrev pub invariant-loop : goal.invariant-loop
invariant-loop g l =
    (l.written ≤ length l.fn.text) × Appends (g.O.Write.contents l.initial.out) (g.O.Write.contents l.out) (take l.written l.fn.text)
