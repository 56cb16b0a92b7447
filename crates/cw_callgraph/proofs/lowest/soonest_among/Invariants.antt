use Rattle.std.proofs.Common.{◌≡◌, map, drop}
use Rattle.cw_callgraph.specs.Lowest.{at}
use Rattle.cw_resolve.specs.Soonest.{sooner, soonest}
use Rattle.cw_callgraph.proofs.lowest.soonest_among.Given as goal

abbrev pub invariant-loop-number : goal.invariant-loop-number
invariant-loop-number l = sooner l.least (soonest (map (at l.places) (drop l.number-index l.numbers))) ≡ soonest (map (at l.places) l.numbers)
