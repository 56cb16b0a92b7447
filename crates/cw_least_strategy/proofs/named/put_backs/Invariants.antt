use Rattle.std.proofs.Common.{◌≡◌, ◌++◌, map, take}
use Rattle.cw_least_strategy.specs.Small.{small_of_back}
use Rattle.cw_least_strategy.proofs.named.put_backs.Given as goal

abbrev pub invariant-loop-back : goal.invariant-loop-back
invariant-loop-back l = l.keys.items ≡ l.initial.keys.items ++ map (small_of_back l.aims) (take l.back-index l.backs)
