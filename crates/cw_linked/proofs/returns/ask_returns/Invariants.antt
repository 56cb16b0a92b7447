use Rattle.cw_product.specs.Product.{game_of}
use Rattle.cw_linked.specs.Founds.{AllStanding}
use Rattle.cw_linked.specs.Queues.{found_of, LowersKeys}
use Rattle.cw_linked.proofs.Backs.{ReturnsLeft}
use Rattle.cw_linked.proofs.returns.ask_returns.Given as goal

abbrev pub invariant-loop-pos : goal.invariant-loop-pos
invariant-loop-pos l = record {
  step : LowersKeys (game_of l.game) l.fn.work l.work;
  left : AllStanding (game_of l.game) l.fn.work.blocks.contexts.items (found_of (game_of l.game) l.work)
      (ReturnsLeft (game_of l.game) l.fn.work.blocks.contexts.items (found_of (game_of l.game) l.fn.work) l.row l.pos-index l.cell.at.number l.cell.pos.0 l.cell.state.0);
}
