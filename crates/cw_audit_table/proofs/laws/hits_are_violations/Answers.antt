use Rattle.cw_audit_table.proofs.Plays.{hits_are}
use Rattle.cw_audit_table.proofs.laws.hits_are_violations.Goals as goal

pub returns : goal.returns
returns c = record { linked = hits_are }
