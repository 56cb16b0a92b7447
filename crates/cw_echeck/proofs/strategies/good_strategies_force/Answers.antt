use Rattle.cw_echeck.proofs.Laws.{good_force}
use Rattle.cw_echeck.proofs.strategies.good_strategies_force.Goals as goal

pub returns : goal.returns
returns c = record { force = good_force }
