use Rattle.std.proofs.Common.{map, take}
use Rattle.cw_solve.specs.declared.contexts.Context.{Context}
use Rattle.cw_lazy_table.specs.SeamKeys.{AreOf}
use Rattle.cw_lazy_table.proofs.promises.promises_of.Given as goal

abbrev pub invariant-loop-number : goal.invariant-loop-number
invariant-loop-number l = AreOf (map (λ (c : Context). c.promise) (take l.number l.solved.contexts)) l.all.items
