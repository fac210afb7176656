use Rattle.std.proofs.Common.{refl}
use Rattle.std.proofs.lemmas.Bool.{false≢true}
use Rattle.report.proofs.Whole.{with_members, without_members}
use Rattle.report.proofs.running.run_book.Goals as goal

pub returns-then-not-is_empty : goal.returns-then-not-is_empty
returns-then-not-is_empty g c = with_members g.M.Registers g.G.Registers _ _ _ _ _ _ _ _ c.run_lines.ensures.run (λ e. false≢true (c.if-not-is_empty.ensures.1 e)) c.report_members.ensures

pub returns-else-not-is_empty : goal.returns-else-not-is_empty
returns-else-not-is_empty g c = without_members g.M.Registers g.G.Registers _ _ _ _ _ _ _ _ c.run_lines.ensures.run (c.if-not-is_empty.ensures.0 refl) refl
