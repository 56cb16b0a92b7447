use Rattle.std.proofs.Common.{arith}
use Rattle.cw_product.specs.Product.{game_of}
use Rattle.cw_linked.proofs.Bounding.{read_value}
use Rattle.cw_linked.proofs.bounds.height_in.Goals as goal

pub returns-clause-is : goal.returns-clause-is
returns-clause-is c =
    let at = c.args.at.now in
    let w = c.args.work.now in
    read_value (game_of c.args.game.now) w.blocks.contexts.items w.store.heights at.number at.context c.args.pos.0 c.args.state.0 c.height.result c.index_in-index.result c.requires.cell.at
    c.index_in-index.ensures.is c.height.ensures

pub returns-clause-most : goal.returns-clause-most
returns-clause-most c most up = let high = up c.index_in-index.result in omega (arith, high, c.height.ensures)
