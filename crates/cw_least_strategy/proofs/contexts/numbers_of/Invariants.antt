use Rattle.std.proofs.Common.{◌≡◌, map, take}
use Rattle.cw_least_strategy.specs.Numbered.{number_for}
use Rattle.cw_least_strategy.proofs.contexts.numbers_of.Given as goal

abbrev pub invariant-loop-number : goal.invariant-loop-number
invariant-loop-number l = l.numbers.items ≡ map (number_for l.solved l.aims) (take l.number l.solved.contexts)
