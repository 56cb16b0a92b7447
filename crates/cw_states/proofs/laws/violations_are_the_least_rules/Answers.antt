use Rattle.cw_states.proofs.Broken.{violations_are_verdicts}
use Rattle.cw_states.proofs.laws.violations_are_the_least_rules.Goals as goal

pub returns-clause-least : goal.returns-clause-least
returns-clause-least c = violations_are_verdicts
