use Rattle.std.proofs.Common.{◌≡◌, ◌<◌, length}
use Rattle.std.specs.Prelude.{slice_get, IfSome}
use Rattle.cw_links.specs.Lists.{list_at}
use Rattle.cw_product.specs.Product.{game_of}
use Rattle.cw_linked.specs.Founds.{Nothing, AllClosed}
use Rattle.cw_linked.specs.Queues.{found_of, LowersKeys}
use Rattle.cw_linked.specs.Waiting.{list_of}
use Rattle.cw_linked.specs.Walks.{rest_of}
use Rattle.cw_linked.proofs.Waits.{AreLeft, change_pairs}
use Rattle.cw_linked.proofs.waiting.ask_changes.Given as goal

abbrev pub invariant-walk : goal.invariant-walk
invariant-walk l = record {
  known : IfSome l.next (λ edge. edge < length l.changes.pairs.values);
  step : LowersKeys (game_of l.game) l.fn.work l.work;
  at : slice_get (rest_of (list_at l.changes.pairs.lists (list_of (game_of l.game) l.changes.flags l.cell.pos.0 l.cell.state.0)) l.next) 0 ≡ l.next;
  left : AllClosed (game_of l.game) l.fn.work.blocks.contexts.items (found_of (game_of l.game) l.work)
      (AreLeft (game_of l.game) (change_pairs l.changes) Nothing l.cell.at.number
      (rest_of (list_at l.changes.pairs.lists (list_of (game_of l.game) l.changes.flags l.cell.pos.0 l.cell.state.0)) l.next));
}

abbrev pub decreases-walk : goal.decreases-walk
decreases-walk l = length (rest_of (list_at l.changes.pairs.lists (list_of (game_of l.game) l.changes.flags l.cell.pos.0 l.cell.state.0)) l.next)
