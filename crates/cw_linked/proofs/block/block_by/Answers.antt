use Rattle.std.proofs.Common.{◌≡◌, ◌<◌, ℕ, ◌∙◌, length, get_or, subst, sym, ap, arith}
use Rattle.std.proofs.lemmas.List.{get_or_default}
use Rattle.std.proofs.lemmas.Option.{slice_get_within}
use Rattle.cw_product.specs.Product.{game_of}
use Rattle.cw_solve.specs.Rounds.{positions}
use Rattle.cw_solve.proofs.Tabling.{there_at, base_at}
use Rattle.cw_linked.proofs.block.block_by.Goals as goal

pub bounds-runs-function : goal.bounds-runs-function
bounds-runs-function c =
    let at = c.args.at.now in
    let there = there_at (game_of c.args.game.now) (length c.args.game.now.graph.parts.items) c.requires.routed c.args.blocks.now c.requires.blocks at.number at.context c.requires.tabled in
    c.requires.runs.all c.function-function.result (subst (λ (f : ℕ). f < length c.args.game.now.graph.parts.items) (sym c.function-function.ensures) there.below) c.function-function.type_inv

pub entry-requires : goal.entry-requires
entry-requires c =
    let at = c.args.at.now in
    rw c.function-function.ensures (there_at (game_of c.args.game.now) (length c.args.game.now.graph.parts.items) c.requires.routed c.args.blocks.now c.requires.blocks at.number at.context
    c.requires.tabled).below

pub index-requires : goal.index-requires
index-requires c =
    let blocks = c.args.blocks.now in
    omega (arith, slice_get_within blocks.contexts.items c.args.at.now.number c.args.at.now.context c.requires.tabled, c.requires.blocks.bases, blocks.bases.ok.0, c.number.ensures)

pub returns : goal.returns
returns c =
    let at = c.args.at.now in
    let g = game_of c.args.game.now in
    let functions = length c.args.game.now.graph.parts.items in
    let blocks = c.args.blocks.now in
    let k = c.index.result.now in
    let f = c.function-function.result in
    let read = subst (λ (n : ℕ). k ≡ get_or blocks.bases.items n k) c.number.ensures c.index.ensures in
    let there = there_at g functions c.requires.routed blocks c.requires.blocks at.number at.context c.requires.tabled in
    let lt = c.requires.runs.all f (subst (λ (f : ℕ). f < functions) (sym c.function-function.ensures) there.below) c.function-function.type_inv in
    record {
      begins = base_at g functions c.requires.routed blocks c.requires.blocks at.number at.context c.requires.tabled k read;
      enters = c.entry.ensures.is ∙ ap g.entry c.function-function.ensures;
      runs = c.by.ensures ∙ c.index-runs-function.is ∙ get_or_default c.args.runs.now f c.index-runs-function.result 0 lt ∙ c.requires.runs.are f lt ∙ ap (positions g) c.function-function.ensures;
    }
