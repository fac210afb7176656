use Rattle.std.proofs.Common.{◌≡◌, sym, ap, subst, subst₂}
use Rattle.rules.specs.Runs.{Keepers, Snapshot}
use Rattle.sheet.specs.Cursors.{lines_left}
use Rattle.book.specs.Halves.{half_of}
use Rattle.book.specs.SectionBook.{book_of}
use Rattle.book.specs.Views.{keepers_of, snapshot_of}
use Rattle.report.specs.Runs.{BookRun}
use Rattle.report.proofs.running.run_section.Goals as goal

pub returns : goal.returns
returns g c =
    let m = g.M.Registers in
    let k = g.G.Registers in
    let fresh = book_of c.new-book.result in
    let last = book_of c.run_book.new.book in
    let own : Keepers g.row.M.Denot g.row.G.Denot = record { money = c.args.money; goods = c.args.goods } in
    let left : Keepers g.row.M.Denot g.row.G.Denot = record { money = c.into_parts-money.result.0; goods = c.into_parts-money.result.1 } in
    let p : Snapshot = snapshot_of (half_of fresh.half) m k g.R.ChargeRule fresh in
    let of : Snapshot → Keepers g.row.M.Denot g.row.G.Denot → Keepers g.row.M.Denot g.row.G.Denot → Type 0 =
    λ p a b. BookRun m k p a (lines_left c.args.lines) c.args.report.now c.run_book.new.report b in
    let kept : keepers_of fresh ≡ own = ap (λ x. record { money = x.0; goods = x.1 }) c.new-book.ensures.parts in
    let given : keepers_of last ≡ left = ap (λ x. record { money = x.0; goods = x.1 }) (sym c.into_parts-money.ensures) in
    subst (λ q. of q own left) c.new-book.ensures.snapshot (subst₂ (of p) kept given c.run_book.ensures)
