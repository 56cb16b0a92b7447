use Rattle.cw_product.specs.Product.{game_of}
use Rattle.cw_linked.specs.Founds.{AllClosed}
use Rattle.cw_linked.specs.Queues.{found_of, LowersKeys}
use Rattle.cw_linked.proofs.Waits.{SourcesLeft}
use Rattle.cw_linked.proofs.waiting.ask_sources.Given as goal

abbrev pub invariant-loop-source : goal.invariant-loop-source
invariant-loop-source l = record {
  step : LowersKeys (game_of l.game) l.fn.work l.work;
  left : AllClosed (game_of l.game) l.fn.work.blocks.contexts.items (found_of (game_of l.game) l.work)
      (SourcesLeft (game_of l.game) l.row l.source-index l.cell.at.number l.cell.pos.0 l.cell.state.0);
}
