use Rattle.std.proofs.Common.{subst}
use Rattle.cw_value.specs.Machines.{Step}
use Rattle.cw_starts.specs.Sources.{source_in}
use Rattle.cw_machine.specs.Shown.{Goes, machine_of}
use Rattle.cw_machine.proofs.Rowed.{by_call}
use Rattle.cw_machine.proofs.whole.step_call.Goals as goal

pub returns-clause-goes : goal.returns-clause-goes
returns-clause-goes c = λ i frames is.
    let s = source_in c.args.known.now.source in
    let old = machine_of c.args.m.now in
    subst (λ (st : Step). Goes c.step_into.result (machine_of c.step_into.new.m) st) (by_call s i frames old c.args.at c.args.callee c.args.taker is) c.step_into.ensures.goes
