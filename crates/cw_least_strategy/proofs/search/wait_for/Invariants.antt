use Rattle.std.proofs.Common.{take}
use Rattle.cw_least_strategy.specs.Descents.{Joins}
use Rattle.cw_least_strategy.proofs.search.wait_for.Given as goal

abbrev pub invariant-loop-key : goal.invariant-loop-key
invariant-loop-key l = Joins l.initial.waiting.keys (take l.key-index l.keys) l.waiting.keys
