use Rattle.cw_audit_search.proofs.Lawful.{cut_far}
use Rattle.cw_audit_search.proofs.laws.cut_hits_are_far.Goals as goal

pub returns : goal.returns
returns c = record { far = cut_far }
