use Rattle.std.proofs.Common.{◌≡◌}
use Rattle.cw_syntax.specs.Trees.{tree_of}
use Rattle.cw_slots.specs.Shown.{scope_of}
use Rattle.cw_eval.specs.Parts.{argument}
use Rattle.cw_eval.specs.Shown.{memory_of}
use Rattle.cw_eval.proofs.Each.{each, left}
use Rattle.cw_eval.proofs.expressions.+value.Given as goal

abbrev pub invariant-arguments-loop-e : goal.invariant-arguments-loop-e
invariant-arguments-loop-e l =
    left (λ e. argument (scope_of l.scope) (tree_of e)) l.parts l.e-index l.args.items (memory_of l.m) ≡ each (λ e. argument (scope_of l.scope) (tree_of e)) l.parts (memory_of l.fn.m)
