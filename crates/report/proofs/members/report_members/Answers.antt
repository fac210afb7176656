use Rattle.std.proofs.Common.{◌+◌, ◌-◌}
use Rattle.rules.specs.Limits.{Ledger}
use Rattle.book.specs.SectionBook.{book_of}
use Rattle.book.specs.Views.{snapshot_of}
use Rattle.book.specs.Halves.{half_of}
use Rattle.report.specs.Runs.{HasRoom, text_of}
use Rattle.report.proofs.Listed.{Below, below_more, below_none, below_same}
use Rattle.report.proofs.Room.{room_less, room_of_member}
use Rattle.report.proofs.members.report_members.Goals as goal
use Rattle.report.proofs.members.report_members.Goals.{in-Some, in_default}

pub loop-member-init : goal.loop-member-init
loop-member-init g c = (below_none _ _, c.requires)

pub loop-member-preserved : goal.loop-member-preserved
loop-member-preserved g c =
    let book = book_of c.args.book.now in
    let b : Ledger = (snapshot_of (half_of book.half) g.M.Registers g.G.Registers g.R.ChargeRule book).ledger in
    let before = text_of c.args.report.now in
    let k = c.loop-member.member in
    let so : Below b before k (text_of c.loop-member.report) = c.loop-member.invariant.0 in
    let next : Below b before (k + 1) (text_of c.match-member_line.report) =
    elim c.match-member_line.branch [
      | in-Some w ↦ rw w.report-is (below_more b before k _ so _ c.member_line.ensures _ w.in-Some.is _ w.add.ensures.text)
      | in_default w ↦ rw w.report-is (below_same b before k _ so _ c.member_line.ensures w.in_default.not-Some)
    ] in
    let has : HasRoom c.loop-member.report (64 - (k + 1) + 1) = room_of_member c.loop-member.report k c.loop-member-test.true c.loop-member.invariant.1 in
    let room : HasRoom c.match-member_line.report (64 - (k + 1)) =
    elim c.match-member_line.branch [
      | in-Some w ↦ rw w.report-is (w.add.ensures.room _ has)
      | in_default w ↦ rw w.report-is (room_less c.loop-member.report _ has)
    ] in
    (next, room)
