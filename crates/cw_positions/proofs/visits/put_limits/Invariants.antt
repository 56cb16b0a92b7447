use Rattle.std.proofs.Common.{◌≡◌, ◌++◌, map, take}
use Rattle.cw_rights.specs.declared.capabilities.Primitive.TheVariants.{Limit}
use Rattle.cw_positions.specs.Positions.{visits}
use Rattle.cw_positions.proofs.visits.put_limits.Given as goal

abbrev pub invariant-loop-limit : goal.invariant-loop-limit
invariant-loop-limit l = record {
  stage : l.stage ≡ l.limit-index;
  spots : l.spots.items ≡ l.fn.spots.items ++ visits l.seam 0 (map (λ limit. Limit limit) (take l.limit-index l.limits));
}
