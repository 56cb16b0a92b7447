use Rattle.std.proofs.Common.{length}
use Rattle.cw_product.specs.Product.{game_of}
use Rattle.cw_solve.proofs.Calling.{cell_within}
use Rattle.cw_solve.proofs.look.moves_hold.Goals as goal

pub spot-requires : goal.spot-requires
spot-requires c =
    let g = game_of c.args.game.now in
    let functions = length c.args.game.now.graph.parts.items in
    cell_within g functions c.requires.routed c.args.table.now.blocks c.requires.table.blocks c.args.at.now c.args.pos.0 c.args.state.0 c.requires.cell
