use Rattle.cw_echeck.proofs.Laws.{closed_force}
use Rattle.cw_echeck.proofs.strategies.closed_strategies_force.Goals as goal

pub returns : goal.returns
returns c = record { force = closed_force }
