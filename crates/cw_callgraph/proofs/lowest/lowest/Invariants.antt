use Rattle.std.proofs.Common.{◌≡◌, drop}
use Rattle.cw_callgraph.specs.Lowest.{lowest}
use Rattle.cw_resolve.specs.Soonest.{sooner}
use Rattle.cw_callgraph.proofs.lowest.lowest.Given as goal

abbrev pub invariant-loop-place : goal.invariant-loop-place
invariant-loop-place l = sooner l.least (lowest (drop l.place-index l.places)) ≡ lowest l.places
