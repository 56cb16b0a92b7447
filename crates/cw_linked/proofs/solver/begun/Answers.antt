use Rattle.std.proofs.Common.{◌++◌, ◌∷◌, ◌∙◌, [], List, length, ap₂}
use Rattle.cw_product.specs.Product.{game_of}
use Rattle.cw_solve.specs.declared.contexts.Context.{Context}
use Rattle.cw_solve.proofs.Fresh.{start_tabled}
use Rattle.cw_linked.proofs.Solving.{blank_open, begun_work}
use Rattle.cw_linked.proofs.solver.begun.Goals as goal

pub add-requires-clause-kept : goal.add-requires-clause-kept
add-requires-clause-kept c = blank_open (game_of c.args.game.now) c.in_ok-work.work c.in_ok-work.ensures

pub add-requires-clause-contexts : goal.add-requires-clause-contexts
add-requires-clause-contexts c =
    start_tabled (game_of c.args.game.now) (length c.args.game.now.graph.parts.items) c.requires.routed (c.in_ok-work.work.blocks.contexts.items ++ c.main_context.result ∷ [])
    (ap₂ (λ (xs : List Context) (x : Context). xs ++ x ∷ []) c.in_ok-work.ensures.contexts c.main_context.ensures)

pub returns-clause-work : goal.returns-clause-work
returns-clause-work c = begun_work (game_of c.args.game.now) c.in_ok-work.work c.in_ok-work.ensures c.add.new.work c.main_context.result c.in_ok-add.ensures

pub returns-clause-alone : goal.returns-clause-alone
returns-clause-alone c = c.in_ok-add.ensures.contexts ∙ ap₂ (λ (xs : List Context) (x : Context). xs ++ x ∷ []) c.in_ok-work.ensures.contexts c.main_context.ensures
