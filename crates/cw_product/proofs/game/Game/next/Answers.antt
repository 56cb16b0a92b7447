use Rattle.std.proofs.Common.{subst, sym}
use Rattle.cw_product.specs.Product.{game_of}
use Rattle.cw_product.specs.Kept.{IsWithin}
use Rattle.cw_product.proofs.Within.{next_within, seen}
use Rattle.cw_product.proofs.game.Game.next.Goals as goal

pub returns-clause-within : goal.returns-clause-within
returns-clause-within c =
    seen (game_of c.args.self.now) c.led.result
    (subst (IsWithin (game_of c.args.self.now)) (sym c.led.ensures)
    (next_within c.args.self.now c.fact_is_sound.ensures.below c.args.pos.0 c.args.state.0 c.fine_spot.result c.args.by c.fine_spot.ensures.fine
    c.requires.state))
