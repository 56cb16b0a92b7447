use Rattle.std.proofs.Common.{refl, rules}
use Rattle.cw_rights.specs.Policies.{policy_of}
use Rattle.cw_positions.proofs.Visiting.{visits_enter, visits_split}
use Rattle.cw_positions.proofs.visits.put_visits.Goals as goal

pub returns-in_ok-put_visit-2 : goal.returns-in_ok-put_visit-2
returns-in_ok-put_visit-2 c =
    visits_split (policy_of c.args.policy.now) c.deref.result.now c.deref.ensures.value c.args.seam c.len-stage.result _ c.args.spots.now.items
    c.put_limits.new.spots.items c.put_visit.new.spots.items
    c.put_visit-then-split.new.spots.items (search rules) refl c.in_ok-put_limits.ensures c.in_ok-put_visit.ensures c.in_ok-put_visit-2.ensures
    c.args.split c.if-split.true

pub returns-else-split : goal.returns-else-split
returns-else-split c =
    visits_enter (policy_of c.args.policy.now) c.deref.result.now c.deref.ensures.value c.args.seam c.len-stage.result c.args.spots.now.items
    c.put_limits.new.spots.items c.put_visit.new.spots.items (search rules) c.in_ok-put_limits.ensures
    c.in_ok-put_visit.ensures c.args.split c.if-split.false
