use Rattle.cw_least_strategy.proofs.Made.{made_there}
use Rattle.cw_least_strategy.proofs.laws.least_strategy_is_there.Goals as goal

pub returns : goal.returns
returns c = record { there = made_there }
