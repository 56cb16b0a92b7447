use Rattle.cw_audit_table.proofs.Plays.{shown_exact}
use Rattle.cw_audit_table.proofs.laws.shown_audits_are_exact.Goals as goal

pub returns : goal.returns
returns c = record { exact = shown_exact }
