use Rattle.cw_echeck.proofs.Laws.{good_starts}
use Rattle.cw_echeck.proofs.strategies.good_strategies_start.Goals as goal

pub returns : goal.returns
returns c = record { start = good_starts }
