use Rattle.cw_audit_laws.proofs.Existing.{table_there}
use Rattle.cw_audit_laws.proofs.laws.table_is_there.Goals as goal

pub returns : goal.returns
returns c = record { there = table_there }
