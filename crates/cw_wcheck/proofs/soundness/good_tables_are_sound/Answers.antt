-- A good table is closed, and a closed one sound.
use Rattle.cw_game.specs.Reached.{Reached}
use Rattle.cw_game.proofs.Goods.{good_closed}
use Rattle.cw_wcheck.proofs.Sounds.{sound}
use Rattle.cw_wcheck.proofs.soundness.good_tables_are_sound.Goals as goal

pub returns : goal.returns
returns c = record { sound = λ p g t of good short. sound (Reached g.policy g.spots g.states) p g t of.policy of.states of.laid (good_closed g t good) short }
