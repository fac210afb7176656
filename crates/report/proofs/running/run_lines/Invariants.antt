use Rattle.std.proofs.Common.{◌+◌, length}
use Rattle.book.specs.SectionBook.{book_of}
use Rattle.book.specs.Views.{keepers_of, snapshot_of}
use Rattle.book.specs.Halves.{half_of}
use Rattle.sheet.specs.Cursors.{lines_left}
use Rattle.report.specs.Runs.{HasRoom}
use Rattle.report.proofs.Onward.{Running}
use Rattle.report.proofs.running.run_lines.Given as goal

abbrev pub invariant-loop-line : goal.invariant-loop-line
invariant-loop-line g l =
    Running g.M.Registers g.G.Registers
    (snapshot_of (half_of (book_of l.initial.book).half) g.M.Registers g.G.Registers g.R.ChargeRule (book_of l.initial.book)) (keepers_of (book_of l.initial.book)) (lines_left l.initial.lines)
    l.initial.report (lines_left l.line-iterator) l.report
    (snapshot_of (half_of (book_of l.book).half) g.M.Registers g.G.Registers g.R.ChargeRule (book_of l.book)) (keepers_of (book_of l.book))
    × HasRoom l.report (length (lines_left l.line-iterator) + 64)
