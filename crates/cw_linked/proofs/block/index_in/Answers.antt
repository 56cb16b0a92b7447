use Rattle.std.proofs.Common.{refl, arith}
use Rattle.cw_product.specs.Product.{game_of}
use Rattle.cw_solve.proofs.Slots.{slot_within}
use Rattle.cw_linked.proofs.block.index_in.Goals as goal

pub returns-clause-is : goal.returns-clause-is
returns-clause-is c =
    let b = c.requires.block in
    rw (b.begins, b.enters, b.runs) refl

pub returns-clause-within : goal.returns-clause-within
returns-clause-within c =
    let at = c.args.at.now in
    let blocks = c.args.blocks.now in
    let lt = slot_within (game_of c.args.game.now) blocks.contexts.items at.number at.context c.args.pos.0 c.args.state.0 c.requires.cell in
    let e = returns-clause-is c in
    omega (arith, lt, e)
