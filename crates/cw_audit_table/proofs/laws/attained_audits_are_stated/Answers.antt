use Rattle.cw_audit_table.proofs.Least.{attained_stated}
use Rattle.cw_audit_table.proofs.laws.attained_audits_are_stated.Goals as goal

pub returns : goal.returns
returns c = record { stated = attained_stated }
