use Rattle.cw_consequences.proofs.Listed.{game_unrefused}
use Rattle.cw_consequences.proofs.stopping.game_is_unrefused.Goals as goal

pub returns : goal.returns
returns c = game_unrefused
