use Rattle.std.proofs.Common.{◌≡◌, ℕ, length, get_or, subst, arith, refl}
use Rattle.std.proofs.lemmas.Option.{slice_get_within}
use Rattle.cw_product.specs.Product.{game_of}
use Rattle.cw_solve.proofs.Slots.{slot_within}
use Rattle.cw_solve.proofs.Tabling.{there_at, base_at}
use Rattle.cw_solve.proofs.table.slot.Goals as goal

pub entry-requires : goal.entry-requires
entry-requires c =
    let at = c.args.at.now in
    rw c.function-function.ensures (there_at (game_of c.args.game.now) (length c.args.game.now.graph.parts.items) c.requires.routed c.args.blocks.now c.requires.blocks at.number at.context
    c.requires.cell.at).below

pub positions-requires-clause-there : goal.positions-requires-clause-there
positions-requires-clause-there c =
    let at = c.args.at.now in
    rw c.function-function.ensures (there_at (game_of c.args.game.now) (length c.args.game.now.graph.parts.items) c.requires.routed c.args.blocks.now c.requires.blocks at.number
    at.context c.requires.cell.at)

pub index-requires : goal.index-requires
index-requires c =
    let b = c.args.blocks.now in
    omega (arith, slice_get_within b.contexts.items c.args.at.now.number c.args.at.now.context c.requires.cell.at, c.requires.blocks.bases, b.bases.ok.0, c.number.ensures)

pub returns-clause-is : goal.returns-clause-is
returns-clause-is c =
    let at = c.args.at.now in
    let g = game_of c.args.game.now in
    let k = c.index.result.now in
    let read = subst (λ (n : ℕ). k ≡ get_or c.args.blocks.now.bases.items n k) c.number.ensures c.index.ensures in
    let b = base_at g (length c.args.game.now.graph.parts.items) c.requires.routed c.args.blocks.now c.requires.blocks at.number at.context c.requires.cell.at k read in
    rw (b, c.entry.ensures.is, c.positions.ensures.is, c.function-function.ensures) refl

pub returns-clause-within : goal.returns-clause-within
returns-clause-within c =
    let at = c.args.at.now in
    let g = game_of c.args.game.now in
    let lt = slot_within g c.args.blocks.now.contexts.items at.number at.context c.args.pos.0 c.args.state.0 c.requires.cell in
    let e = returns-clause-is c in
    omega (arith, lt, e)
