use Rattle.cw_echeck.proofs.Laws.{closed_lose}
use Rattle.cw_echeck.proofs.strategies.closed_strategies_lose.Goals as goal

pub returns : goal.returns
returns c = record { lose = closed_lose }
