use Rattle.cw_audit_search.proofs.Lawful.{counted_stated}
use Rattle.cw_audit_search.proofs.laws.counted_rows_are_stated.Goals as goal

pub returns : goal.returns
returns c = record { stated = counted_stated }
