use Rattle.std.proofs.Common.{Option, length, subst, arith}
use Rattle.cw_product.specs.Product.{game_of}
use Rattle.cw_solve.specs.declared.contexts.Context.{Context}
use Rattle.cw_solve.proofs.Fresh.{longer_too_many}
use Rattle.cw_linked.specs.Solving.{Ends}
use Rattle.cw_linked.specs.Works.{known_of}
use Rattle.cw_linked.proofs.Solving.{is_table, is_done}
use Rattle.cw_linked.proofs.solver.solve_table.Goals as goal

pub returns-in-None-clause-table : goal.returns-in-None-clause-table
returns-in-None-clause-table c =
    let g = game_of c.args.game.now in
    let w = c.in-Ok.work in
    let made = c.table_of.ensures in
    let last = subst (λ (o : Option Context). Ends g (known_of w) o) c.in-None.is c.in-Ok.ensures in
    is_table g (known_of w) c.table_of.result made.blocks made.heights made.written last.0

pub returns-in-None-clause-done : goal.returns-in-None-clause-done
returns-in-None-clause-done c =
    let g = game_of c.args.game.now in
    let w = c.in-Ok.work in
    let made = c.table_of.ensures in
    let last = subst (λ (o : Option Context). Ends g (known_of w) o) c.in-None.is c.in-Ok.ensures in
    is_done g (known_of w) c.table_of.result made.blocks made.heights made.written last.1

pub returns-in_ok-longer-in-Some-clause-cause : goal.returns-in_ok-longer-in-Some-clause-cause
returns-in_ok-longer-in-Some-clause-cause c =
    let g = game_of c.args.game.now in
    let w = c.in-Ok.work in
    let last = subst (λ (o : Option Context). Ends g (known_of w) o) c.in-Some.is c.in-Ok.ensures in
    longer_too_many g (length c.args.game.now.graph.parts.items) c.requires.routed w.blocks last.0.blocks c.in-Some.context last.1.missing c.in_ok-longer-in-Some.field-0.items
    c.in_ok-longer-in-Some.ensures (omega (arith, last.0.cells, last.1.many))
