use Rattle.std.proofs.Common.{Some, length, sym, ap, ◌∙◌, arith}
use Rattle.std.proofs.lemmas.Option.{slice_get-get_or}
use Rattle.cw_product.specs.Product.{game_of}
use Rattle.cw_solve.specs.declared.contexts.Context.{Context}
use Rattle.cw_solve.proofs.Keeping.{few}
use Rattle.cw_solve.proofs.table.numbered.Goals as goal

pub overflow_cast-result : goal.overflow_cast-result
overflow_cast-result c =
    let le = few (game_of c.args.game.now) (length c.args.game.now.graph.parts.items) c.requires.routed c.args.blocks.now c.requires.blocks in
    omega (arith, le, c.requires.within)

pub returns-clause-there : goal.returns-clause-there
returns-clause-there c =
    slice_get-get_or c.args.blocks.now.contexts.items c.args.number c.index-context.result.now c.requires.within ∙ ap (λ (y : Context). Some y) (sym c.index-context.ensures)
    ∙ ap (λ (y : Context). Some y) (sym c.of.ensures)
