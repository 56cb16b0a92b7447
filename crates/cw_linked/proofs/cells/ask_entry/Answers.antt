use Rattle.std.proofs.Common.{length, sym, ◌∙◌}
use Rattle.cw_product.specs.Product.{game_of}
use Rattle.cw_linked.proofs.Alike.{alike}
use Rattle.cw_linked.proofs.Finishing.{no_entry}
use Rattle.cw_linked.proofs.Telling.{nothing}
use Rattle.cw_linked.proofs.cells.ask_entry.Goals as goal

pub ask_callers-requires-clause-entry : goal.ask_callers-requires-clause-entry
ask_callers-requires-clause-entry c = c.if-cell-block.true ∙ c.requires.block.enters

pub returns-else-cell-block : goal.returns-else-cell-block
returns-else-cell-block c =
    let g = game_of c.args.game.now in
    let w = c.args.work.now in
    let cell = c.args.cell.now in
    record {
      step = nothing g w c.requires.long c.requires.high c.requires.right;
      called = no_entry g (length c.args.game.now.graph.parts.items) c.requires.routed
          (alike c.args.game.now) w c.requires.known c.requires.right cell.at.number cell.at.context cell.pos.0 cell.state.0 c.requires.cell.at
          (λ e. c.if-cell-block.false (e ∙ sym c.requires.block.enters)) c.requires.called;
    }
