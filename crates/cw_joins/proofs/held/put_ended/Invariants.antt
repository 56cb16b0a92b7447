use Rattle.std.proofs.Common.{take, map, ◌≡◌, ◌++◌}
use Rattle.cw_joins.proofs.held.put_ended.Given as goal

abbrev pub invariant-loop-b : goal.invariant-loop-b
invariant-loop-b g l = l.met.items ≡ l.initial.met.items ++ map (λ b. (l.key, b)) (take l.b-index l.ended)
