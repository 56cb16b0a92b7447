use Rattle.cw_least_strategy.proofs.Made.{made_good}
use Rattle.cw_least_strategy.proofs.laws.least_are_good.Goals as goal

pub returns : goal.returns
returns c = made_good
