use Rattle.std.proofs.Common.{◌≡◌, map, take}
use Rattle.cw_callgraph.specs.Walking.{scene_at, file_at, body_bar}
use Rattle.cw_callgraph.proofs.bars.body_bars.Given as goal

abbrev pub invariant-loop-function : goal.invariant-loop-function
invariant-loop-function l = l.bodies.items ≡ map (body_bar (scene_at l.setting) (file_at l.setting)) (take l.function-index l.functions)
