use Rattle.std.proofs.Common.{◌≡◌, map, take}
use Rattle.cw_callgraph.specs.Walking.{head_bar}
use Rattle.cw_callgraph.proofs.bars.head_bars.Given as goal

abbrev pub invariant-loop-function : goal.invariant-loop-function
invariant-loop-function l = l.heads.items ≡ map head_bar (take l.function-index l.functions)
