use Rattle.std.proofs.Common.{refl}
use Rattle.report.proofs.Tables.{each_ok}
use Rattle.report.proofs.Whole.{refused_whole}
use Rattle.report.proofs.ready.run_sheet.Goals as goal

pub returns-then-sheet-gt-MAX_SHEET_BYTES-clause-ok : goal.returns-then-sheet-gt-MAX_SHEET_BYTES-clause-ok
returns-then-sheet-gt-MAX_SHEET_BYTES-clause-ok g c =
    each_ok c.refuse_whole.result c.refuse_whole.ensures (λ text is. refused_whole g.M.Registers g.G.Registers _ _ _ _ _ c.if-sheet-gt-MAX_SHEET_BYTES.true is refl)
