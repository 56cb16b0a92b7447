use Rattle.cw_audit_visits.proofs.Gone.{there_may_stand}
use Rattle.cw_audit_visits.proofs.returns.join.Goals as goal

pub call_at-requires-clause-may_stand : goal.call_at-requires-clause-may_stand
call_at-requires-clause-may_stand c = there_may_stand c.args.game.now c.args.search.now c.in-Some.met c.requires.kept c.in-Some.ensures.there
