-- Working definitions: a link of the least key is taken, and tied to a context.
use Rattle.std.specs.Prelude.{◌≡◌, ℕ, ◌+◌, ◌<◌, ◌≤◌, Some, slice_get, slice_index, slice_set}
use Rattle.cw_game.specs.Games.{Game}
use Rattle.cw_game.specs.Pairs.{Called}
use Rattle.cw_solve.specs.declared.contexts.Context.{Context}
use Rattle.cw_solve.specs.Contexts.{IsSetOf}
use Rattle.cw_solve.specs.Rounds.{holds_by}
use Rattle.cw_linked.specs.declared.work.Cell.{Cell}
use Rattle.cw_linked.specs.declared.work.Work.{Work}
use Rattle.cw_linked.specs.Calls.{AreCallers}
use Rattle.cw_linked.specs.Founds.{IsLink, height_back, IsShrinking, AreRight, Nothing, AllClosed, AllCalled, AllStanding}
use Rattle.cw_linked.specs.Queues.{found_of, AreFlagged, AreLong, AreHigh, AreDue, LowersKeys, IsCellAt}
use Rattle.cw_linked.specs.Returns.{AsksReturn}
use Rattle.cw_linked.specs.Steps.{IsReady, CallsBy, IsIt}
use Rattle.cw_linked.specs.Works.{known_of, IsKnown, heights_of}

-- what the solver keeps but for what waits
pub record IsFirm (g : Game) (w : Work) : Type 0 where
  pub known : IsKnown g (known_of w)
  pub long : AreLong w
  pub flagged : AreFlagged g w
  pub high : AreHigh w
  pub callers : AreCallers w
  pub dues : AreDue g w
  pub right : AreRight g w.blocks.contexts.items (found_of g w)

-- what it keeps right after a link stopped waiting for so many moves
pub record IsFreed (g : Game) (w : Work) (link : Cell) (index moves : ℕ) : Type 0 where
  pub firm : IsFirm g w
  pub at : IsCellAt g w index link
  pub low : moves ≤ w.written
  pub call : (call : Called) × IsLink g w.blocks.contexts.items link.at.number link.at.context link.pos.0 link.state.0 call
  pub free : slice_index w.store.due index ≡ 0
  pub closed : AllClosed g w.blocks.contexts.items (found_of g w) Nothing
  pub called : AllCalled g w.blocks.contexts.items (found_of g w) Nothing
  pub standing : AllStanding g w.blocks.contexts.items (found_of g w) (IsIt link.at.number link.pos.0 link.state.0)
  pub ready : (call : Called) (set : ℕ) → IsLink g w.blocks.contexts.items link.at.number link.at.context link.pos.0 link.state.0 call
      → IsSetOf g set (λ y. holds_by moves (height_back g (found_of g w) link.at.number call link.state.0 y))
      → IsReady g w.blocks.contexts.items (found_of g w) link.at.number link.at.context link.pos.0 link.state.0 call moves set
  pub shrinks : (call : Called) → IsLink g w.blocks.contexts.items link.at.number link.at.context link.pos.0 link.state.0 call → 0 < slice_index w.store.to index
      → IsShrinking g w.blocks.contexts.items (found_of g w) link.at.number link.pos.0 link.state.0 call moves

-- .. where the link's index is known
abbrev pub IsFreedAt : Game → Work → (index moves : ℕ) → Type 0
IsFreedAt g w index moves = (link : Cell) → IsCellAt g w index link → IsFreed g w link index moves

-- before it is tied: the context with the number `callee` has what its call promises for so many moves
pub record IsTieable (g : Game) (w : Work) (link : Cell) (index moves callee back : ℕ) (to : Context) : Type 0 where
  pub firm : IsFirm g w
  pub at : IsCellAt g w index link
  pub low : moves ≤ w.written
  pub free : slice_index w.store.due index ≡ 0
  pub closed : AllClosed g w.blocks.contexts.items (found_of g w) Nothing
  pub called : AllCalled g w.blocks.contexts.items (found_of g w) Nothing
  pub standing : AllStanding g w.blocks.contexts.items (found_of g w) (IsIt link.at.number link.pos.0 link.state.0)
  pub there : slice_get w.blocks.contexts.items callee ≡ Some to
  pub ready : (call : Called) × IsLink g w.blocks.contexts.items link.at.number link.at.context link.pos.0 link.state.0 call × (call.back ≡ back) × (call.function ≡ to.function)
      × IsReady g w.blocks.contexts.items (found_of g w) link.at.number link.at.context link.pos.0 link.state.0 call moves to.promise

-- the link at an index goes to a context, with a promise for so many moves
pub record TiesLink (old new : Work) (index number moves : ℕ) : Type 0 where
  pub known : known_of new ≡ known_of old
  pub flags : new.store.flags ≡ old.store.flags
  pub asked : new.store.asked ≡ old.store.asked
  pub due : new.store.due ≡ old.store.due
  pub to : new.store.to ≡ slice_set old.store.to index (number + 1)
  pub waves : new.store.waves ≡ slice_set old.store.waves index moves
  pub callers : AreCallers new

-- the calls of a link are asked for whose callee is lost
pub record AsksCalls (g : Game) (old new : Work) : Type 0 where
  pub step : LowersKeys g old new
  pub called : AllCalled g old.blocks.contexts.items (found_of g new) Nothing

-- the calls of a link from a state on
abbrev pub CallsFrom : Game → (j r x from : ℕ) → ℕ → ℕ → ℕ → Type 0
CallsFrom g j r x from i p q = CallsBy g j r x i p q × (from ≤ q)

-- where a cell's height is more than so many moves, each link of a position that returns to it stands, as far as states return to the cell
pub record AsksBack (g : Game) (old new : Work) (cell : Cell) (p moves : ℕ) : Type 0 where
  pub step : LowersKeys g old new
  pub asked : moves < heights_of g (known_of old) cell.at.number cell.pos.0 cell.state.0 → AsksReturn g old new cell p

-- a link stands again
pub record AsksAgain (g : Game) (old new : Work) : Type 0 where
  pub step : LowersKeys g old new
  pub standing : AllStanding g old.blocks.contexts.items (found_of g new) Nothing
