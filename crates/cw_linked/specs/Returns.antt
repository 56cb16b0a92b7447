-- Working definitions: the calls that return to each position.
use Rattle.std.specs.Prelude.{◌≡◌, ℕ, ◌-◌, ◌<◌, ◌≤◌, List, true, Some, length, slice_get, slice_index, Contains}
use Rattle.cw_core.specs.declared.ids.PosId.{PosId}
use Rattle.cw_game.specs.Games.{Game, returned}
use Rattle.cw_game.specs.Pairs.{has, Called, call_in, kept_at}
use Rattle.cw_links.specs.Flat.{row_at}
use Rattle.cw_product.specs.Moves.{pos_id}
use Rattle.cw_solve.specs.declared.contexts.Context.{Context}
use Rattle.cw_linked.specs.declared.work.Cell.{Cell}
use Rattle.cw_linked.specs.declared.work.Work.{Work}
use Rattle.cw_linked.specs.Founds.{IsLink, IsStanding, Nothing, AllStanding}
use Rattle.cw_linked.specs.Queues.{found_of, LowersKeys}

-- For each position a row, which has the calls that return there.
pub record AreReturns (g : Game) (returns : List (List PosId)) : Type 0 where
  pub rows : length returns ≡ length g.spots
  pub fine : (r : ℕ) (pos : PosId) → Contains (row_at returns r) pos → pos.0 < length g.spots
  pub leads : (p : ℕ) (call : Called) → p < length g.spots → call_in (slice_get g.spots p) ≡ Some call → Contains (row_at returns call.back) (pos_id p)

-- a link goes to one of the contexts
abbrev pub AreFew : Work → Type 0
AreFew w = (k : ℕ) → k < length w.store.heights → slice_index w.store.to k ≤ length w.blocks.contexts.items

-- the link at an index goes to a context whose promise has the state
abbrev pub IsPromised : Work → (k x : ℕ) → Type 0
IsPromised w k x = (c : Context) × (0 < slice_index w.store.to k) × (slice_get w.blocks.contexts.items (slice_index w.store.to k - 1) ≡ Some c) × (has c.promise x ≡ true)

-- a call stands at p that returns to r
abbrev pub Returns : Game → (p r : ℕ) → Type 0
Returns g p r = (call : Called) × (call_in (slice_get g.spots p) ≡ Some call) × (call.back ≡ r)

-- each link of a position that returns to the cell's position stands, as far as states return to the cell
pub record AsksReturn (g : Game) (old new : Work) (cell : Cell) (p : ℕ) : Type 0 where
  pub step : LowersKeys g old new
  pub standing : (k : ℕ) (call : Called) → IsLink g old.blocks.contexts.items cell.at.number cell.at.context p k call → call.back ≡ cell.pos.0
      → (x : ℕ) → x < g.states.count → returned g.states (kept_at call.split k) x ≡ cell.state.0 → IsStanding g old.blocks.contexts.items (found_of g new) cell.at.number p k call x

pub record AsksReturns (g : Game) (old new : Work) : Type 0 where
  pub step : LowersKeys g old new
  pub standing : AllStanding g old.blocks.contexts.items (found_of g new) Nothing
