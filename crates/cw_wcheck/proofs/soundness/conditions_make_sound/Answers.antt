-- By what every board of a woven run keeps, at the least meaning of the states.
use Rattle.cw_game.specs.Reached.{Reached}
use Rattle.cw_wcheck.proofs.Sounds.{sound}
use Rattle.cw_wcheck.proofs.soundness.conditions_make_sound.Goals as goal

pub returns : goal.returns
returns c = record { sound = λ p g t e right laid closed short. sound (Reached g.policy g.spots g.states) p g t e right laid closed short }
