use Rattle.std.proofs.Common.{ap, ◌∙◌, arith}
use Rattle.std.proofs.lemmas.List.{length-set}
use Rattle.keeper.specs.Journal.{total_after}
use Rattle.keeper.proofs.Journals.{sound_more, sums_more}
use Rattle.keeper.proofs.journal.JournalKeeper.write.Goals as goal

pub invariant_of-self : goal.invariant_of-self
invariant_of-self c =
    let j = c.args.self.now in
    let e = c.args.entry in
    let sums = sums_more j.registers j.room j.written j.places.now e j.fitting c.requires j.bound in
    record {
      fitting = simp length-set j.fitting;
      within = grind arith;
      sound = sound_more j.registers j.room j.written j.places.now e j.fitting c.requires j.sound;
      sums = c.total_after-self.ensures ∙ ap (λ t. total_after t e) j.sums ∙ sums.0;
      bound = sums.1;
    }
