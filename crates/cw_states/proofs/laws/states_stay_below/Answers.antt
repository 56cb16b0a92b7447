use Rattle.cw_states.proofs.Below.{stay_below}
use Rattle.cw_states.proofs.laws.states_stay_below.Goals as goal

pub returns : goal.returns
returns c = stay_below
