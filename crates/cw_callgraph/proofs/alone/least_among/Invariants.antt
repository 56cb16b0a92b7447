use Rattle.std.proofs.Common.{◌≡◌, map, drop}
use Rattle.cw_callgraph.specs.Lowest.{at}
use Rattle.cw_callgraph.specs.Walking.{scene_at, file_at, body_bar}
use Rattle.cw_resolve.specs.Soonest.{sooner, soonest}
use Rattle.cw_callgraph.proofs.alone.least_among.Given as goal

abbrev pub invariant-loop-number : goal.invariant-loop-number
invariant-loop-number l =
    sooner l.least (soonest (map (at (map (body_bar (scene_at l.setting) (file_at l.setting)) l.functions)) (drop l.number-index l.numbers)))
    ≡ soonest (map (at (map (body_bar (scene_at l.setting) (file_at l.setting)) l.functions)) l.numbers)
