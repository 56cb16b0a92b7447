use Rattle.cw_text_lines.proofs.Starts.{starts_otherwise}
use Rattle.cw_steps.specs.Steps.{step_fields, FitsStep}
use Rattle.cw_steps.proofs.Acts.{tell}
use Rattle.cw_steps.proofs.step.next_step.Goals as goal

pub returns-in-None-clause-none : goal.returns-in-None-clause-none
returns-in-None-clause-none c = starts_otherwise FitsStep step_fields tell c.args.text.now c.in-Some.line.now c.in-Some.rest.now c.in-Some.ensures.parts c.in-Some.ensures.first c.in-None.ensures
