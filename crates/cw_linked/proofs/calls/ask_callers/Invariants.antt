use Rattle.std.proofs.Common.{◌≡◌, ◌<◌, ◌+◌, length}
use Rattle.std.specs.Prelude.{slice_get, IfSome}
use Rattle.cw_links.specs.Lists.{list_at}
use Rattle.cw_links.specs.Flags.{number}
use Rattle.cw_product.specs.Product.{game_of}
use Rattle.cw_linked.specs.Calls.{CallsLeft}
use Rattle.cw_linked.specs.Founds.{AllCalled}
use Rattle.cw_linked.specs.Queues.{found_of, LowersKeys}
use Rattle.cw_linked.specs.Walks.{rest_of}
use Rattle.cw_linked.proofs.calls.ask_callers.Given as goal

abbrev pub invariant-walk : goal.invariant-walk
invariant-walk l = record {
  known : IfSome l.next (λ link. link < number l.work.store.flags);
  step : LowersKeys (game_of l.game) l.fn.work l.work;
  at : slice_get (rest_of (list_at l.fn.work.store.lists (l.cell.at.number + 1)) l.next) 0 ≡ l.next;
  left : AllCalled (game_of l.game) l.fn.work.blocks.contexts.items (found_of (game_of l.game) l.work)
      (CallsLeft (game_of l.game) l.fn.work.blocks.contexts.items l.fn.work.store.flags (found_of (game_of l.game) l.fn.work) (rest_of (list_at l.fn.work.store.lists (l.cell.at.number + 1)) l.next)
      l.cell.at.number l.cell.pos.0 l.cell.state.0);
}

abbrev pub decreases-walk : goal.decreases-walk
decreases-walk l = length (rest_of (list_at l.fn.work.store.lists (l.cell.at.number + 1)) l.next)
