use Rattle.std.proofs.Common.{arith, sym, subst}
use Rattle.std.specs.List.{All}
use Rattle.std.proofs.lemmas.Grind.{common_steps}
use Rattle.std.proofs.lemmas.List.Elements.{All-push}
use Rattle.cw_machine.specs.Knowing.{IsTask}
use Rattle.cw_machine.proofs.tasks.all_tasks.Goals as goal

pub loop-row-preserved : goal.loop-row-preserved
loop-row-preserved c = record {
  rows = grind (arith, common_steps);
  tasks = λ functions known.
      subst (All (IsTask functions)) (sym c.in_ok-push.ensures.items)
      (All-push (IsTask functions) c.loop-row.tasks.items c.task_of.result (c.loop-row.invariant.tasks functions known) (c.task_of.ensures.task functions known));
}
