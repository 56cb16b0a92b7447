use Rattle.cw_consequences.proofs.Reaudited.{audit_is_accepted}
use Rattle.cw_consequences.proofs.laws.what_audit_writes_is_accepted.Goals as goal

pub returns : goal.returns
returns c = audit_is_accepted
