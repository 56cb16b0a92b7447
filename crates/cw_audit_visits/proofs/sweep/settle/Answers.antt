use Rattle.cw_audit_visits.proofs.Gone.{gone_trans}
use Rattle.cw_audit_visits.proofs.Swept.{begun_same}
use Rattle.cw_audit_visits.proofs.sweep.settle.Goals as goal

pub visit_all-requires-clause-begun : goal.visit_all-requires-clause-begun
visit_all-requires-clause-begun c = begun_same c.args.game.now c.args.search.now c.begin_all.new.search (c.in_ok-begin_all.ensures.tells.same cc).0 (c.in_ok-begin_all.ensures.begun cc)

pub returns-clause-goes_on : goal.returns-clause-goes_on
returns-clause-goes_on c = gone_trans c.args.game.now c.args.search.now c.begin_all.new.search c.visit_all.new.search c.in_ok-begin_all.ensures.goes_on c.in_ok-changed.ensures.goes_on
