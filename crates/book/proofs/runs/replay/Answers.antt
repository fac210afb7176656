use Rattle.std.proofs.Common.{◌≡◌, take, vec_items, refl, subst, subst₂, arith}
use Rattle.std.proofs.lemmas.List.{take_more, take_all}
use Rattle.rules.specs.declared.calls.Account.TheVariants.{Position}
use Rattle.rules.specs.declared.calls.Call.TheVariants.{Deposit}
use Rattle.rules.specs.declared.requests.Request.TheVariants.{Make}
use Rattle.rules.specs.Law.{Start, opened, start}
use Rattle.rules.specs.Runs.{Keepers, Snapshot}
use Rattle.law.proofs.Whole.{lawful_from}
use Rattle.book.specs.Halves.{half_of}
use Rattle.book.specs.SectionBook.{book_of}
use Rattle.book.specs.Steps.{Ran}
use Rattle.book.specs.Views.{keepers_of, snapshot_of}
use Rattle.book.proofs.Running.{ran_lawful, ran_more, ran_none}
use Rattle.book.proofs.runs.replay.Goals as goal

pub loop-request-init : goal.loop-request-init
loop-request-init g c =
    let made = c.in_ok-responses.ensures in
    let fresh = book_of c.in_ok-book.book in
    let p : Snapshot = snapshot_of (half_of fresh.half) g.M.Registers g.G.Registers g.R.ChargeRule fresh in
    (made.len, made.capacity, ran_none g.M.Registers g.G.Registers p p (keepers_of fresh) (keepers_of fresh) (vec_items c.in_ok-responses.responses) refl refl made.items)

pub loop-request-preserved : goal.loop-request-preserved
loop-request-preserved g c =
    let m = g.M.Registers in
    let k = g.G.Registers in
    let r = g.R.ChargeRule in
    let inv = c.loop-request.invariant in
    let i = c.loop-request.request-index in
    let pushed = c.push_reserved.ensures in
    let first = book_of c.in_ok-book.book in
    let before = book_of c.loop-request.book in
    let after = book_of c.take.new.self in
    let p : Snapshot = snapshot_of (half_of first.half) m k r first in
    let q : Snapshot = snapshot_of (half_of before.half) m k r before in
    let q' : Snapshot = snapshot_of (half_of after.half) m k r after in
    let more = ran_more m k p (keepers_of first) (take i c.args.requests.now) (vec_items c.loop-request.responses) q (keepers_of before) inv.2 _ c.take.result q' (keepers_of after) c.take.ensures.steps refl refl in (
      omega (arith, pushed.len, inv.0),
      omega (arith, pushed.capacity, inv.1),
      rw (take_more c.args.requests.now i (Make (Deposit 0 Position 0)) c.loop-request-test.true, pushed.items) more,
    )

pub returns : goal.returns
returns g c =
    let a = c.args in
    let m = g.M.Registers in
    let k = g.G.Registers in
    let r = g.R.ChargeRule in
    let o : Start = start m k r a.rows.now a.money a.goods a.rule in
    let own : Keepers g.row.M.Denot g.row.G.Denot = record { money = a.money; goods = a.goods } in
    let fresh = book_of c.in_ok-book.book in
    let last = book_of c.loop-request.book in
    let responses = vec_items c.loop-request.responses in
    let p : Snapshot = snapshot_of (half_of fresh.half) m k r fresh in
    let end : Snapshot = snapshot_of (half_of last.half) m k r last in
    let opens : p ≡ opened o = c.in_ok-book.ensures.opened in
    let kept : keepers_of fresh ≡ own = c.in_ok-book.ensures.keepers in
    let all : Ran m k p (keepers_of fresh) a.requests.now responses end (keepers_of last) =
    subst (λ rs. Ran m k p (keepers_of fresh) rs responses end (keepers_of last)) (take_all c.loop-request.request-index a.requests.now c.loop-request-test.false) c.loop-request.invariant.2 in
    let ran : Ran m k (opened o) own a.requests.now responses end (keepers_of last) =
    subst₂ (λ q x. Ran m k q x a.requests.now responses end (keepers_of last)) opens kept all in
    ran_lawful m k o own a.requests.now responses end (keepers_of last) refl refl (lawful_from m k r a.rows.now a.money a.goods a.rule (g.met.R.ChargeRule.splits a.rule)) ran
