use Rattle.std.proofs.Common.{refl}
use Rattle.rules.specs.declared.calls.Call.TheVariants.{Place}
use Rattle.rules.specs.Runs.{KeepersGoOn}
use Rattle.section.specs.Called.{answers_of_one}
use Rattle.book.specs.Views.{keepers_of, snapshot_of}
use Rattle.book.proofs.Calls.{refused_by_section}
use Rattle.book.proofs.book.Book.place.Goals as goal

pub returns-in_err-hold-clause-called : goal.returns-in_err-hold-clause-called
returns-in_err-hold-clause-called g c =
    let b = c.args.self.now in
    let refused = c.in_err-hold.ensures in
    refused_by_section (λ es. KeepersGoOn g.M.Registers g.G.Registers (keepers_of b) es (keepers_of b)) (snapshot_of (g.H.HalfOfDay.half b.half) g.M.Registers g.G.Registers g.R.ChargeRule b) (Place c.args.order) (refl, refl) answers_of_one (λ _. refl) b.section c.place.new.self refl _ refused.called refused.err c.from_residual.result c.from_residual.ensures.1
