use Rattle.std.proofs.Common.{subst}
use Rattle.cw_value.specs.Machines.{Step}
use Rattle.cw_starts.specs.Sources.{source_in}
use Rattle.cw_machine.specs.Shown.{Goes, machine_of}
use Rattle.cw_machine.proofs.Rowed.{by_inner}
use Rattle.cw_machine.proofs.whole.step_within.Goals as goal

pub returns-clause-goes : goal.returns-clause-goes
returns-clause-goes c = λ i frames is.
    let s = source_in c.args.known.now.source in
    let old = machine_of c.args.m.now in
    subst (λ (st : Step). Goes c.step_task.result (machine_of c.step_task.new.m) st) (by_inner s i frames old c.args.task.now.row is c.requires.inner) c.step_task.ensures.goes
