-- Working definitions: the lists of the links that go to each context.
use Rattle.std.specs.Prelude.{◌≡◌, ℕ, ◌<◌, ◌≤◌, List, Bool, Some, length, slice_get, slice_index, Contains}
use Rattle.cw_game.specs.Games.{Game}
use Rattle.cw_game.specs.Pairs.{Called, call_in}
use Rattle.cw_links.specs.Flags.{rank}
use Rattle.cw_solve.specs.declared.contexts.Context.{Context}
use Rattle.cw_solve.specs.Rounds.{IsCell}
use Rattle.cw_linked.specs.declared.work.Cell.{Cell}
use Rattle.cw_linked.specs.declared.work.Work.{Work}
use Rattle.cw_linked.specs.Founds.{Found, class_of, IsCalled, Nothing, AllCalled}
use Rattle.cw_linked.specs.Queues.{found_of, LowersKeys}
use Rattle.cw_linked.specs.Steps.{IsSame}
use Rattle.cw_linked.specs.Works.{index_at}

-- there is a list for each context, and links go to these
pub record AreCallers (w : Work) : Type 0 where
  pub more : length w.blocks.contexts.items < length w.store.lists
  pub few : (k : ℕ) → k < length w.store.heights → slice_index w.store.to k ≤ length w.blocks.contexts.items

-- the calls whose link goes to a cell of an entry, and stands in what is left of its list
abbrev pub CallsLeft : Game → List Context → List Bool → Found → List ℕ → (j r x : ℕ) → ℕ → ℕ → ℕ → Type 0
CallsLeft g contexts flags s rest j r x i p q =
    (call : Called) × (call_in (slice_get g.spots p) ≡ Some call) × IsSame (s.to i p (class_of g call.split q)) (g.entry call.function) q j r x
    × Contains rest (rank flags (index_at g contexts i p (class_of g call.split q)))

-- the call of the link at an index is asked for, if the link goes to the context of this cell and the state of the cell is of its class
pub record AsksCaller (g : Game) (old new : Work) (k : ℕ) (cell : Cell) : Type 0 where
  pub step : LowersKeys g old new
  pub called : (i : ℕ) (c : Context) (p q : ℕ) (call : Called) → IsCell g old.blocks.contexts.items i c p q → call_in (slice_get g.spots p) ≡ Some call
      → IsSame ((found_of g old).to i p (class_of g call.split q)) (g.entry call.function) q cell.at.number cell.pos.0 cell.state.0
      → k ≡ index_at g old.blocks.contexts.items i p (class_of g call.split q) → IsCalled g (found_of g new) i p q

pub record AsksCallers (g : Game) (old new : Work) : Type 0 where
  pub step : LowersKeys g old new
  pub called : AllCalled g old.blocks.contexts.items (found_of g new) Nothing
