-- At the least meaning of the states.
use Rattle.cw_game.specs.Reached.{Reached}
use Rattle.cw_game.proofs.Standing.{lost_start}
use Rattle.cw_wcheck.proofs.soundness.lost_start_is_forced.Goals as goal

pub returns : goal.returns
returns c = record { forced = λ p g e right laid routines lost. lost_start (Reached g.policy g.spots g.states) g p e right laid routines lost }
