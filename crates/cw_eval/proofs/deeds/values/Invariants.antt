use Rattle.std.proofs.Common.{◌≡◌}
use Rattle.cw_syntax.specs.Trees.{tree_of}
use Rattle.cw_value.specs.Expressions.{value}
use Rattle.cw_slots.specs.Shown.{scope_of}
use Rattle.cw_eval.specs.Shown.{memory_of}
use Rattle.cw_eval.proofs.Each.{each, left}
use Rattle.cw_eval.proofs.deeds.values.Given as goal

abbrev pub invariant-loop-e : goal.invariant-loop-e
invariant-loop-e l =
    left (λ e. value (scope_of l.scope) (tree_of e)) l.parts l.e-index l.values.items (memory_of l.m) ≡ each (λ e. value (scope_of l.scope) (tree_of e)) l.parts (memory_of l.initial.m)
