use Rattle.cw_product.proofs.Begun.{first_within}
use Rattle.cw_product.proofs.game.Game.first.Goals as goal

pub first-requires : goal.first-requires
first-requires c =
    record {
      point = first_within _ c.args.self.now c.self.view_is c.self.inside.positions.bases.items c.self.invariant.same_bases c.args.point.0
          c.requires;
    }
