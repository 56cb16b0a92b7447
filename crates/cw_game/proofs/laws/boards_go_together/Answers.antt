use Rattle.cw_game.proofs.Together.{together}
use Rattle.cw_game.proofs.laws.boards_go_together.Goals as goal

pub returns : goal.returns
returns c = record { together = together }
