use Rattle.cw_play.proofs.OnePlay.{one_play}
use Rattle.cw_play.proofs.laws.one_play_by_a_tape.Goals as goal

pub returns : goal.returns
returns c = record { one = one_play }
