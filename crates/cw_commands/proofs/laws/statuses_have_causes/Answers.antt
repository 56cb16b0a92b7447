use Rattle.cw_commands.proofs.Statuses.{never_fails, ends_well, never_for_sure}
use Rattle.cw_commands.proofs.laws.statuses_have_causes.Goals as goal

pub returns-clause-failed : goal.returns-clause-failed
returns-clause-failed g c = never_fails g.row.N.Denot g.D.DueRelation.is_due

pub returns-clause-well : goal.returns-clause-well
returns-clause-well g c = ends_well g.row.N.Denot g.D.DueRelation.is_due

pub returns-clause-sure : goal.returns-clause-sure
returns-clause-sure g c = never_for_sure g.row.N.Denot g.D.DueRelation.is_due
