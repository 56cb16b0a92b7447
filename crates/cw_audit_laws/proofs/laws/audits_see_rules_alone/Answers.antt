use Rattle.cw_audit_laws.proofs.Ruled.{rules_alone}
use Rattle.cw_audit_laws.proofs.laws.audits_see_rules_alone.Goals as goal

pub returns : goal.returns
returns c = record { alike = rules_alone }
