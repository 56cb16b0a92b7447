use Rattle.cw_product.specs.Product.{game_of}
use Rattle.cw_linked.specs.Founds.{AllCalled}
use Rattle.cw_linked.specs.Queues.{found_of, LowersKeys}
use Rattle.cw_linked.specs.Tied.{CallsFrom}
use Rattle.cw_linked.proofs.ties.ask_calls.Given as goal

abbrev pub invariant-loop-q : goal.invariant-loop-q
invariant-loop-q l = record {
  step : LowersKeys (game_of l.game) l.fn.work l.work;
  left : AllCalled (game_of l.game) l.fn.work.blocks.contexts.items (found_of (game_of l.game) l.work) (CallsFrom (game_of l.game) l.link.at.number l.link.pos.0 l.link.state.0 l.q);
}
