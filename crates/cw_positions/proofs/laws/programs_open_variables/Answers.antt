use Rattle.cw_positions.proofs.Opening.{programs_open_variables}
use Rattle.cw_positions.proofs.laws.programs_open_variables.Goals as goal

pub returns : goal.returns
returns c = record { variables = programs_open_variables }
