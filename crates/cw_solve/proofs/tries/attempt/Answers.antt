use Rattle.std.proofs.Common.{◌≡◌, ◌<◌, List, length, ap, ◌∙◌, subst, arith}
use Rattle.cw_product.specs.Product.{game_of}
use Rattle.cw_solve.specs.declared.contexts.Context.{Context}
use Rattle.cw_solve.specs.declared.table.Blocks.{Blocks}
use Rattle.cw_solve.specs.Contexts.{cells_of}
use Rattle.cw_solve.proofs.Tabling.{there}
use Rattle.cw_solve.proofs.Fresh.{longer_tabled, longer_too_many}
use Rattle.cw_solve.proofs.tries.attempt.Goals as goal

pub size-requires-clause-there : goal.size-requires-clause-there
size-requires-clause-there c =
    there (game_of c.args.game.now) (length c.args.game.now.graph.parts.items) c.requires.routed c.in-Some.context c.in-Some.ensures.missing.needed

pub returns-then-cells : goal.returns-then-cells
returns-then-cells c =
    let g = game_of c.args.game.now in
    let t = c.rounds.new.table in
    let table = c.in-Some.ensures.table in
    let longer = c.in_ok-contexts-in-Some.contexts.items in
    let more = longer_tabled g (length c.args.game.now.graph.parts.items) c.requires.routed t.blocks table.blocks c.in-Some.context c.in-Some.ensures.missing longer c.in_ok-contexts-in-Some.ensures
    (omega (arith, c.len.ensures, t.heights.ok.0, table.cells, c.size.ensures.is, c.if-cells.true)) (omega (arith, c.size.ensures.is, c.size.ensures.some)) in
    let same : t.blocks.contexts.items ≡ c.args.contexts.items = ap (λ (b : Blocks). b.contexts.items) c.in-Some.ensures.blocks ∙ c.in_ok-table.ensures.same in
    (more.0, subst (λ (xs : List Context). cells_of g xs < cells_of g longer) same more.1)

pub returns : goal.returns
returns c =
    let g = game_of c.args.game.now in
    let t = c.rounds.new.table in
    let table = c.in-Some.ensures.table in
    longer_too_many g (length c.args.game.now.graph.parts.items) c.requires.routed t.blocks table.blocks c.in-Some.context c.in-Some.ensures.missing c.in_ok-contexts-in-Some.contexts.items
    c.in_ok-contexts-in-Some.ensures (omega (arith, c.len.ensures, t.heights.ok.0, table.cells, c.size.ensures.is, c.if-cells.false))
