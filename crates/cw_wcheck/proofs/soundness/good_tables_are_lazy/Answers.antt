-- A good table is closed, and a closed one lazy where it tries and stops only what is lost.
use Rattle.cw_game.specs.Reached.{Reached}
use Rattle.cw_game.proofs.Goods.{good_closed}
use Rattle.cw_wcheck.proofs.Lazies.{lazy}
use Rattle.cw_wcheck.proofs.soundness.good_tables_are_lazy.Goals as goal

pub returns : goal.returns
returns c = record { lazy = λ p g t of good only. lazy (Reached g.policy g.spots g.states) p g t of.policy of.states of.laid of.routines (good_closed g t good) only }
