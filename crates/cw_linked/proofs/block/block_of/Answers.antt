use Rattle.std.proofs.Common.{◌≡◌, ℕ, ◌∙◌, length, get_or, subst, ap, arith}
use Rattle.std.proofs.lemmas.Option.{slice_get_within}
use Rattle.cw_product.specs.Product.{game_of}
use Rattle.cw_solve.specs.Rounds.{positions}
use Rattle.cw_solve.proofs.Tabling.{there_at, base_at}
use Rattle.cw_linked.proofs.block.block_of.Goals as goal

pub entry-requires : goal.entry-requires
entry-requires c =
    let at = c.args.at.now in
    rw c.function-function.ensures (there_at (game_of c.args.game.now) (length c.args.game.now.graph.parts.items) c.requires.routed c.args.blocks.now c.requires.blocks at.number at.context
    c.requires.tabled).below

pub positions-requires-clause-there : goal.positions-requires-clause-there
positions-requires-clause-there c =
    let at = c.args.at.now in
    rw c.function-function.ensures (there_at (game_of c.args.game.now) (length c.args.game.now.graph.parts.items) c.requires.routed c.args.blocks.now c.requires.blocks at.number
    at.context c.requires.tabled)

pub index-requires : goal.index-requires
index-requires c =
    let blocks = c.args.blocks.now in
    omega (arith, slice_get_within blocks.contexts.items c.args.at.now.number c.args.at.now.context c.requires.tabled, c.requires.blocks.bases, blocks.bases.ok.0, c.number.ensures)

pub returns : goal.returns
returns c =
    let at = c.args.at.now in
    let g = game_of c.args.game.now in
    let blocks = c.args.blocks.now in
    let k = c.index.result.now in
    let read = subst (λ (n : ℕ). k ≡ get_or blocks.bases.items n k) c.number.ensures c.index.ensures in
    record {
      begins = base_at g (length c.args.game.now.graph.parts.items) c.requires.routed blocks c.requires.blocks at.number at.context c.requires.tabled k read;
      enters = c.entry.ensures.is ∙ ap g.entry c.function-function.ensures;
      runs = c.positions.ensures.is ∙ ap (positions g) c.function-function.ensures;
    }
