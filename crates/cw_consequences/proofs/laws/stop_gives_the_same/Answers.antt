use Rattle.cw_consequences.proofs.Readings.{stop_same}
use Rattle.cw_consequences.proofs.laws.stop_gives_the_same.Goals as goal

pub returns : goal.returns
returns c = stop_same
