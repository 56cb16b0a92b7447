use Rattle.std.proofs.Common.{◌<◌, length, ◌∙◌, ap, get_or, arith}
use Rattle.std.proofs.lemmas.List.{get_or_default}
use Rattle.cw_product.specs.Product.{game_of}
use Rattle.cw_solve.proofs.Tabling.{read_some}
use Rattle.cw_solve.proofs.table.holds.Goals as goal

pub returns-else-height-eq0 : goal.returns-else-height-eq0
returns-else-height-eq0 c =
    let t = c.args.table.now in
    let k = c.index-height.result.now in
    let within : c.slot.result < length t.heights.items = omega (arith, c.slot.ensures.within, c.requires.table.cells) in
    let value = c.index-height.ensures ∙ get_or_default t.heights.items c.slot.result k 0 within ∙ ap (λ y. get_or t.heights.items y 0) c.slot.ensures.is in
    read_some (game_of c.args.game.now) (length c.args.game.now.graph.parts.items) c.requires.routed t c.args.n c.requires.written c.args.at.now c.args.pos.0 c.args.state.0 k c.requires.cell value
    c.if-height-eq0.false
