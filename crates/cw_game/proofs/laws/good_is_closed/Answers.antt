use Rattle.cw_game.proofs.Goods.{good_closed, good_strategy_closed, good_strategy_starts}
use Rattle.cw_game.proofs.laws.good_is_closed.Goals as goal

pub returns-clause-tables : goal.returns-clause-tables
returns-clause-tables c = good_closed

pub returns-clause-strategies : goal.returns-clause-strategies
returns-clause-strategies c = λ g s good. (good_strategy_closed g s good, good_strategy_starts g s good)
