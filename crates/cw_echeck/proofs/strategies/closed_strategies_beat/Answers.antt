use Rattle.cw_echeck.proofs.Laws.{closed_beat}
use Rattle.cw_echeck.proofs.strategies.closed_strategies_beat.Goals as goal

pub returns : goal.returns
returns c = record { beat = closed_beat }
