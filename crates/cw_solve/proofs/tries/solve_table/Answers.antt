use Rattle.std.proofs.Common.{◌++◌, ◌∷◌, [], List, length, ap₂, ◌∙◌}
use Rattle.cw_product.specs.Product.{game_of}
use Rattle.cw_solve.specs.declared.contexts.Context.{Context}
use Rattle.cw_solve.proofs.Fresh.{start_tabled}
use Rattle.cw_solve.proofs.tries.solve_table.Goals as goal

pub tries-init : goal.tries-init
tries-init c =
    let g = game_of c.args.game.now in
    start_tabled g (length c.args.game.now.graph.parts.items) c.requires.routed c.push.new.self.items
    (c.in_ok-push.ensures.items ∙ ap₂ (λ (xs : List Context) (x : Context). xs ++ x ∷ []) c.new-contexts.ensures.items c.main_context.ensures)
