use Rattle.cw_game.proofs.Linking.{linked_by}
use Rattle.cw_game.proofs.laws.boards_are_linked_by_any_meaning.Goals as goal

pub returns : goal.returns
returns g c = record { linked = linked_by g.M.StateMeaning.means }
