-- By what every frame of a woven run owes to the returns below it, at the least meaning of the states.
use Rattle.cw_game.specs.Reached.{Reached}
use Rattle.cw_wcheck.proofs.Lazies.{lazy}
use Rattle.cw_wcheck.proofs.soundness.lost_pairs_make_lazy.Goals as goal

pub returns : goal.returns
returns c = record { lazy = λ p g t e right laid routines closed only. lazy (Reached g.policy g.spots g.states) p g t e right laid routines closed only }
