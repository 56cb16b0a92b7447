use Rattle.cw_consequences.proofs.Tried.{refuted_violates, tells_tried}
use Rattle.cw_consequences.proofs.laws.audit_tells_what_is_tried.Goals as goal

pub returns-clause-tried : goal.returns-clause-tried
returns-clause-tried c = tells_tried

pub returns-clause-refuted : goal.returns-clause-refuted
returns-clause-refuted c = refuted_violates
