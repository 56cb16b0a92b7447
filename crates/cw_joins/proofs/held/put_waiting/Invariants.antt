use Rattle.std.proofs.Common.{take, map, ◌≡◌, ◌++◌}
use Rattle.cw_joins.proofs.held.put_waiting.Given as goal

abbrev pub invariant-loop-a : goal.invariant-loop-a
invariant-loop-a g l = l.met.items ≡ l.initial.met.items ++ map (λ a. (a, l.key)) (take l.a-index l.waiting)
