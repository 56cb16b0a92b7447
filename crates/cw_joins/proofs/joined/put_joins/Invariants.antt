use Rattle.std.proofs.Common.{take, map, ◌≡◌, ◌++◌}
use Rattle.cw_joins.specs.Working.{join_of}
use Rattle.cw_joins.proofs.joined.put_joins.Given as goal

abbrev pub invariant-loop-pair : goal.invariant-loop-pair
invariant-loop-pair g l = l.next.items ≡ l.initial.next.items ++ map (join_of (g.J.Joins.rules l.joins)) (take l.pair-index l.met)
