-- By the tie of each move, at the least meaning of the states.
use Rattle.cw_game.proofs.Linking.{linked}
use Rattle.cw_game.proofs.laws.boards_are_linked.Goals as goal

pub returns : goal.returns
returns c = record { linked = linked }
