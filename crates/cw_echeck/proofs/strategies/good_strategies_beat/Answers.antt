use Rattle.cw_echeck.proofs.Laws.{good_beat}
use Rattle.cw_echeck.proofs.strategies.good_strategies_beat.Goals as goal

pub returns : goal.returns
returns c = record { beat = good_beat }
