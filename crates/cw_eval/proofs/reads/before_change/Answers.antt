use Rattle.std.proofs.Common.{sym, subst, ℤ}
use Rattle.cw_syntax.specs.Trees.{Tree, more, none}
use Rattle.cw_syntax.proofs.Shapes.{node_is}
use Rattle.cw_value.specs.Expressions.{before_first}
use Rattle.cw_slots.specs.Shown.{scope_of}
use Rattle.cw_eval.specs.Shown.{Shows, as_is, memory_of, target_in}
use Rattle.cw_eval.proofs.reads.before_change.Goals as goal

pub returns : goal.returns
returns c =
    subst (λ (t : Tree). Shows {A = ℤ} {B = ℤ} as_is c.old_value.result (memory_of c.args.m.now)
    (before_first (scope_of c.args.scope.now) (more t none) (target_in c.args.target) (memory_of c.args.m.now)))
    (sym (node_is c.args.e.now)) c.old_value.ensures
