use Rattle.cw_audit_laws.proofs.Alike.{audited_alike}
use Rattle.cw_audit_laws.proofs.laws.audits_see_no_refusals.Goals as goal

pub returns : goal.returns
returns c = record { alike = audited_alike }
