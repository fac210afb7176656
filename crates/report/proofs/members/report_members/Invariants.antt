use Rattle.std.proofs.Common.{◌-◌}
use Rattle.book.specs.SectionBook.{book_of}
use Rattle.book.specs.Views.{snapshot_of}
use Rattle.book.specs.Halves.{half_of}
use Rattle.report.specs.Runs.{HasRoom, text_of}
use Rattle.report.proofs.Listed.{Below}
use Rattle.report.proofs.members.report_members.Given as goal

abbrev pub invariant-loop-member : goal.invariant-loop-member
invariant-loop-member g l =
    let book = book_of l.book in
    Below (snapshot_of (half_of book.half) g.M.Registers g.G.Registers g.R.ChargeRule book).ledger (text_of l.initial.report) l.member (text_of l.report) × HasRoom l.report (64 - l.member)
