use Rattle.cw_consequences.proofs.Alike.{played_alike}
use Rattle.cw_consequences.proofs.stopping.stop_keeps_the_game.Goals as goal

pub returns : goal.returns
returns c = played_alike
