use Rattle.std.proofs.Common.{refl}
use Rattle.rules.specs.Runs.{KeepersGoOn}
use Rattle.section.specs.Views.{section_of}
use Rattle.book.specs.Views.{keepers_of, snapshot_of}
use Rattle.book.proofs.Shorts.{rated}
use Rattle.book.proofs.book.Book.rerate.Goals as goal

pub returns-clause-called : goal.returns-clause-called
returns-clause-called g c =
    let b = c.args.self.now in
    let rerated = c.in_ok-rerate.ensures.called in
    rated (λ es. KeepersGoOn g.M.Registers g.G.Registers (keepers_of b) es (keepers_of b)) (snapshot_of (g.H.HalfOfDay.half b.half) g.M.Registers g.G.Registers g.R.ChargeRule b) c.args.instrument c.args.rate (section_of c.rerate.new.self) (refl, refl) rerated.0 rerated.1 c.short_members.result c.short_members.ensures
