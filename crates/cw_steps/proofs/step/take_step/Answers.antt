use Rattle.cw_steps.proofs.Acts.{no_act}
use Rattle.cw_steps.proofs.step.take_step.Goals as goal

pub returns-in_err-fork : goal.returns-in_err-fork
returns-in_err-fork c =
    rw c.from_residual-in_err-fork.ensures
    (no_act c.args.fields.now c.take_u32.new.self c.take.new.self c.in_ok-process.process c.in_ok-take.field-0.now c.in_ok-process.ensures.some.1 c.in_ok-take.ensures.some c.in_err-fork.ensures)
