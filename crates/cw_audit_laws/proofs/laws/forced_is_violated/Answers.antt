use Rattle.cw_audit_laws.proofs.Tries.{forced_violated}
use Rattle.cw_audit_laws.proofs.laws.forced_is_violated.Goals as goal

pub returns : goal.returns
returns c = record { violated = forced_violated }
