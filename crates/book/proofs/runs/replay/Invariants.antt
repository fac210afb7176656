use Rattle.std.proofs.Common.{◌≡◌, ◌≤◌, length, take, vec_items, vec_len, vec_capacity}
use Rattle.book.specs.Halves.{half_of}
use Rattle.book.specs.SectionBook.{book_of}
use Rattle.book.specs.Steps.{Ran}
use Rattle.book.specs.Views.{keepers_of, snapshot_of}
use Rattle.book.proofs.runs.replay.Given as goal

abbrev pub invariant-loop-request : goal.invariant-loop-request
invariant-loop-request g l =
    let m = g.M.Registers in
    let k = g.G.Registers in
    let r = g.R.ChargeRule in
    let first = book_of l.initial.book in
    let now = book_of l.book in
    (vec_len l.responses ≡ l.request-index)
    × (length l.requests ≤ vec_capacity l.responses)
    × Ran m k (snapshot_of (half_of first.half) m k r first) (keepers_of first) (take l.request-index l.requests) (vec_items l.responses) (snapshot_of (half_of now.half) m k r now) (keepers_of now)
