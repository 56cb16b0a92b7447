use Rattle.std.proofs.Common.{◌≡◌, map, take}
use Rattle.cw_least_strategy.proofs.AllAims.{aim_in}
use Rattle.cw_least_strategy.proofs.aims.aims_of.Given as goal

abbrev pub invariant-loop-number : goal.invariant-loop-number
invariant-loop-number l = l.all.items ≡ map (aim_in l.solved) (take l.number l.solved.contexts)
