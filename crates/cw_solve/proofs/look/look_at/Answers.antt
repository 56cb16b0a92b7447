use Rattle.std.proofs.Common.{◌+◌, length, sym, ◌∙◌, subst}
use Rattle.cw_solve.specs.declared.table.Blocks.{Blocks}
use Rattle.cw_solve.specs.Rounds.{slot}
use Rattle.cw_solve.specs.Tables.{IsInRound}
use Rattle.cw_product.specs.Product.{game_of}
use Rattle.cw_solve.proofs.Rounding.{look_true, look_false}
use Rattle.cw_solve.proofs.look.look_at.Goals as goal

pub returns-in-Ok-true-clause-round : goal.returns-in-Ok-true-clause-round
returns-in-Ok-true-clause-round c =
    let g = game_of c.args.game.now in
    let functions = length c.args.game.now.graph.parts.items in
    look_true g functions c.requires.routed c.args.table.now c.args.at.now c.args.n c.args.pos.0 c.args.state.0 c.requires.cell c.requires.round c.in-Ok-true.ensures.asked
    (sym c.in-Ok-true.ensures.holds ∙ c.in-Ok-true.field-0-test)

pub returns-in-Ok-false-clause-round : goal.returns-in-Ok-false-clause-round
returns-in-Ok-false-clause-round c =
    let g = game_of c.args.game.now in
    let functions = length c.args.game.now.graph.parts.items in
    let new = c.write.new.table in
    let at = c.args.at.now in
    let w = c.write.ensures.written in
    subst (λ (b : Blocks). IsInRound g new c.args.n (slot g b.contexts.items at.number at.context.function c.args.pos.0 c.args.state.0 + 1)) (sym w.blocks)
    (look_false g functions c.requires.routed c.args.table.now new at c.args.n c.args.pos.0 c.args.state.0 c.slot-cell.result c.requires.table c.requires.cell c.slot-cell.ensures.is
    c.slot-cell.ensures.within c.requires.round c.in-Ok-false.ensures.asked (sym c.in-Ok-false.ensures.holds ∙ c.in-Ok-false.field-0-test) w)
