use Rattle.cw_text_lines.proofs.Starts.{from_fields}
use Rattle.cw_steps.specs.Steps.{step_fields, FitsStep}
use Rattle.cw_steps.proofs.Acts.{tell}
use Rattle.cw_steps.proofs.step.read_step.Goals as goal

pub returns : goal.returns
returns c = from_fields FitsStep step_fields tell c.args.line.now c.of-fields.result c.take_step.result c.of-fields.ensures.fields c.take_step.ensures
