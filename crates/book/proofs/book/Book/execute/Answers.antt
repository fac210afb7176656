use Rattle.std.proofs.Common.{refl}
use Rattle.rules.specs.declared.calls.Call.TheVariants.{Execute}
use Rattle.rules.specs.Runs.{KeepersGoOn}
use Rattle.section.specs.Called.{answers_of_two}
use Rattle.book.specs.Views.{keepers_of, snapshot_of}
use Rattle.book.proofs.Calls.{refused_by_section}
use Rattle.book.proofs.book.Book.execute.Goals as goal

pub returns-in_err-of_buyer-clause-called : goal.returns-in_err-of_buyer-clause-called
returns-in_err-of_buyer-clause-called g c =
    let b = c.args.self.now in
    let refused = c.in_err-of_buyer.ensures in
    refused_by_section (λ es. KeepersGoOn g.M.Registers g.G.Registers (keepers_of b) es (keepers_of b)) (snapshot_of (g.H.HalfOfDay.half b.half) g.M.Registers g.G.Registers g.R.ChargeRule b) (Execute c.args.trade) (refl, refl) answers_of_two (λ _. refl) b.section c.execute.new.self refl _ refused.called refused.err c.from_residual.result c.from_residual.ensures.1
