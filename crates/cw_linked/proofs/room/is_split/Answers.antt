use Rattle.std.specs.Prelude.{slice_get}
use Rattle.cw_product.specs.Product.{game_of}
use Rattle.cw_linked.proofs.Lengthening.{whole_call}
use Rattle.cw_linked.proofs.room.is_split.Goals as goal

pub returns-in_default : goal.returns-in_default
returns-in_default c _ call is = whole_call (slice_get (game_of c.args.game.now).spots c.args.pos.0) c.spot.result c.spot.ensures c.in_default.not-SplitCall call is
