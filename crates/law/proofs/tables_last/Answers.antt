use Rattle.law.proofs.Lent.{table_after, table_places}
use Rattle.law.proofs.tables_last.Goals as goal

pub returns : goal.returns
returns c =
    λ t es t' h.
    let after = table_after t es t' h in
    record { places = table_places t t' after.0 after.1; registers = after.1; same_reference = after.2 }
