use Rattle.std.proofs.Common.{subst}
use Rattle.cw_product.specs.Kept.{IsSound}
use Rattle.cw_product.proofs.game.Game.fact_is_sound.Goals as goal

pub returns : goal.returns
returns c = subst IsSound c.self.view_is c.self.invariant.sound
