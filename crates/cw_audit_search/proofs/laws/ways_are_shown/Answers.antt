use Rattle.cw_audit_search.proofs.Lawful.{ways_shown}
use Rattle.cw_audit_search.proofs.laws.ways_are_shown.Goals as goal

pub returns : goal.returns
returns c = record { shown = ways_shown }
