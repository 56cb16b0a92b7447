use Rattle.std.proofs.Common.{ℕ, ◌<◌}
use Rattle.cw_game.specs.Games.{returned}
use Rattle.cw_game.specs.Pairs.{Called, kept_at}
use Rattle.cw_product.specs.Product.{game_of}
use Rattle.cw_linked.specs.Founds.{IsLink, IsStanding, AllStanding}
use Rattle.cw_linked.specs.Queues.{found_of, LowersKeys}
use Rattle.cw_linked.specs.Steps.{IsIt}
use Rattle.cw_linked.proofs.ties.ask_again.Given as goal

abbrev pub invariant-loop-q : goal.invariant-loop-q
invariant-loop-q l = record {
  step : LowersKeys (game_of l.game) l.fn.work l.work;
  others : AllStanding (game_of l.game) l.fn.work.blocks.contexts.items (found_of (game_of l.game) l.work) (IsIt l.link.at.number l.link.pos.0 l.link.state.0);
  before : (call : Called) → IsLink (game_of l.game) l.fn.work.blocks.contexts.items l.link.at.number l.link.at.context l.link.pos.0 l.link.state.0 call
      → (y : ℕ) → y < (game_of l.game).states.count → returned (game_of l.game).states (kept_at call.split l.link.state.0) y < l.q
      → IsStanding (game_of l.game) l.fn.work.blocks.contexts.items (found_of (game_of l.game) l.work) l.link.at.number l.link.pos.0 l.link.state.0 call y;
}
