use Rattle.cw_audit_search.proofs.Lawful.{stated_found}
use Rattle.cw_audit_search.proofs.laws.stated_rows_are_found.Goals as goal

pub returns : goal.returns
returns c = record { found = stated_found }
