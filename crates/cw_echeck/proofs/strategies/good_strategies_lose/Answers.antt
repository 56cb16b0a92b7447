use Rattle.cw_echeck.proofs.Laws.{good_lose}
use Rattle.cw_echeck.proofs.strategies.good_strategies_lose.Goals as goal

pub returns : goal.returns
returns c = record { lose = good_lose }
