use Rattle.std.proofs.Common.{◌+◌, ◌∙◌, ap}
use Rattle.cw_positions.proofs.Visiting.{limits_more}
use Rattle.cw_positions.proofs.visits.put_limits.Goals as goal

pub loop-limit-preserved : goal.loop-limit-preserved
loop-limit-preserved c = record {
  stage = ap (λ n. n + 1) c.loop-limit.invariant.stage;
  spots = c.in_ok-put_visit.ensures ∙ limits_more c.args.spots.now.items c.args.seam c.loop-limit.limit-index c.loop-limit.stage c.args.limits.now _
      c.loop-limit.spots.items
      c.loop-limit-test.true c.loop-limit.invariant.stage c.loop-limit.invariant.spots;
}
