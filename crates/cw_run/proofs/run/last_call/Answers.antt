use Rattle.std.proofs.Common.{◌∙◌}
use Rattle.cw_run.proofs.Waits.{last_is, last_range}
use Rattle.cw_run.proofs.run.last_call.Goals as goal

pub returns-clause-range : goal.returns-clause-range
returns-clause-range c = λ g all. last_range g c.args.waits.now c.copied.result (last_is c.args.waits.now c.copied.result (c.copied.ensures ∙ c.last.ensures.value)) all
