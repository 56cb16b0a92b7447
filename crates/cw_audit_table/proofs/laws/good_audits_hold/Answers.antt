use Rattle.cw_audit_table.proofs.Plays.{good_hold}
use Rattle.cw_audit_table.proofs.laws.good_audits_hold.Goals as goal

pub returns : goal.returns
returns c = record { hold = good_hold }
