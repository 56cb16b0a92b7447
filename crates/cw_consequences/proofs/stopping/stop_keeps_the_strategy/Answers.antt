use Rattle.cw_consequences.proofs.Least.{strategy_kept}
use Rattle.cw_consequences.proofs.stopping.stop_keeps_the_strategy.Goals as goal

pub returns : goal.returns
returns c = strategy_kept
