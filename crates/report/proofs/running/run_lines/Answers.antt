use Rattle.std.proofs.Common.{◌+◌, length, refl, sym, ap, subst}
use Rattle.book.specs.contracts.section_book.SectionBookBookView.TheImpl.{ghosts}
use Rattle.book.specs.SectionBook.{book_of}
use Rattle.book.specs.Views.{keepers_of}
use Rattle.sheet.specs.Cursors.{lines_left}
use Rattle.report.proofs.Onward.{running_done, running_more, running_none}
use Rattle.report.specs.Runs.{HasRoom}
use Rattle.report.proofs.Room.{room_at_end, room_next}
use Rattle.report.proofs.running.run_lines.Goals as goal

pub loop-line-init : goal.loop-line-init
loop-line-init g c =
    let same = c.into_iter-line-iterator.ensures.into_iter_gives in
    (running_none g.M.Registers g.G.Registers _ _ _ _ _ (ap lines_left same), subst (λ ls. HasRoom c.args.report.now (length (lines_left ls) + 64)) (sym same) c.requires.room)

pub loop-line-preserved : goal.loop-line-preserved
loop-line-preserved g c =
    let s = ghosts g.row.M g.row.G g.row.R g.M.Keeper g.M.Keeper-dict g.M.Registers g.M.Registers-dict g.G.Keeper g.G.Keeper-dict g.G.Registers g.G.Registers-dict g.R.ChargeRule g.R.ChargeRule-dict in (
      running_more g.M.Registers g.G.Registers s (λ b. keepers_of (book_of b)) (λ x es y h. h) (λ x. refl) (λ x. refl) _ _ _ _ _ _ c.loop-line.book c.loop-line.invariant.0
          _ _ c.in-Some.ensures.steps _ c.run_line.new.book c.run_line.ensures _ c.add_answers.ensures.text c.add_answers.ensures.lines,
      c.add_answers.ensures.room _ (room_next c.loop-line.report _ _ _ c.in-Some.ensures.steps c.loop-line.invariant.1),
    )

pub returns-clause-run : goal.returns-clause-run
returns-clause-run g c = running_done g.M.Registers g.G.Registers _ _ _ _ _ _ _ _ c.loop-line.invariant.0 c.in-None.ensures.steps.0

pub returns-clause-room : goal.returns-clause-room
returns-clause-room g c = room_at_end c.loop-line.report _ c.in-None.ensures.steps.0 c.loop-line.invariant.1
