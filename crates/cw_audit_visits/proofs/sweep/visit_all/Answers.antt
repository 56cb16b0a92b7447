use Rattle.cw_audit_visits.proofs.Oks.{when_ok, at_ok}
use Rattle.cw_audit_visits.proofs.Swept.{all_settled}
use Rattle.cw_audit_visits.proofs.sweep.visit_all.Goals as goal

pub returns-clause-settled : goal.returns-clause-settled
returns-clause-settled c = when_ok c.visit_each.result (λ changed e b.
    all_settled c.args.game.now c.args.search.now c.args.bound c.count-count.result c.count-count.ensures (at_ok _ c.visit_each.result changed e c.visit_each.ensures.settled b))
