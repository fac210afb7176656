use Rattle.std.proofs.Common.{refl, ap}
use Rattle.rules.specs.Runs.{KeepersGoOn, Snapshot}
use Rattle.rules.specs.declared.calls.Call.TheVariants.{Settle}
use Rattle.book.specs.Views.{keepers_of, snapshot_of}
use Rattle.book.proofs.Calls.{refused}
use Rattle.book.proofs.Settling.{transfers_refused}
use Rattle.book.proofs.book.Book.settle.Goals as goal

pub returns-in_err-settlement-clause-called : goal.returns-in_err-settlement-clause-called
returns-in_err-settlement-clause-called g c =
    let b = c.args.self.now in
    refused (λ es. KeepersGoOn g.M.Registers g.G.Registers (keepers_of b) es (keepers_of b)) (snapshot_of (g.H.HalfOfDay.half b.half) g.M.Registers g.G.Registers g.R.ChargeRule b) (Settle c.args.contract c.args.event) (refl, refl) c.in_err-settlement.field-0.0 c.in_err-settlement.ensures c.from_residual.result c.from_residual.ensures.1

pub returns-in_err-transfer-clause-called : goal.returns-in_err-transfer-clause-called
returns-in_err-transfer-clause-called g c =
    let b = c.args.self.now in
    let p : Snapshot = snapshot_of (g.H.HalfOfDay.half b.half) g.M.Registers g.G.Registers g.R.ChargeRule b in
    let after = c.transfer.new in
    let said = c.in_err-transfer.ensures in
    transfers_refused (λ es. KeepersGoOn g.M.Registers g.G.Registers (keepers_of b) es (record { money = after.money; goods = after.goods })) (said.1, said.2) p refl c.args.contract c.args.event c.in_ok-settlement.settlement c.in_ok-settlement.ensures (g.M.Registers.meaning after.money) (g.G.Registers.meaning after.goods) c.in_err-transfer.field-0.0 said.0 (ap g.M.Registers.meaning said.1) (ap g.G.Registers.meaning said.2)
    c.from_residual-in_err-transfer.result c.from_residual-in_err-transfer.ensures.1
