-- Working definitions: what waits under the least key is taken.
use Rattle.std.specs.Prelude.{◌≡◌, ℕ, ◌+◌, ◌/◌, ◌<◌, List, length, slice_index, slice_set}
use Rattle.cw_game.specs.Games.{Game}
use Rattle.cw_links.specs.Keys.{AreFrom, AreEmpty}
use Rattle.cw_solve.specs.Tables.{HasCell}
use Rattle.cw_linked.specs.declared.popped.Popped.{Popped}
use Rattle.cw_linked.specs.declared.popped.Popped.TheVariants.{Nothing as Empty, Cell as OfCell, Link as OfLink}
use Rattle.cw_linked.specs.declared.work.Cell.{Cell}
use Rattle.cw_linked.specs.declared.work.Work.{Work}
use Rattle.cw_linked.specs.Calls.{AreCallers}
use Rattle.cw_linked.specs.Founds.{AreRight, AllClosed, AllCalled, AllStanding, AreFound}
use Rattle.cw_linked.specs.Queues.{found_of, AreFlagged, AreLong, AreSameBut, AreHigh, AreDue, IsCellAt}
use Rattle.cw_linked.specs.Steps.{WaitsFor, CallsThere, ReturnsThere}
use Rattle.cw_linked.specs.Works.{known_of, IsKnown, heights_of}

-- the cell at an index had the least key, and has its height now and waits no more
pub record TakesCell (old new : Work) (index height : ℕ) : Type 0 where
  pub within : index < length old.store.heights
  pub some : 0 < slice_index old.store.asked index
  pub half : height ≡ slice_index old.store.asked index / 2
  pub least : AreFrom old.store.asked old.store.due (slice_index old.store.asked index)
  pub blocks : new.blocks ≡ old.blocks
  pub heights : new.store.heights ≡ slice_set old.store.heights index height
  pub written : new.written ≡ old.written + 1
  pub flags : new.store.flags ≡ old.store.flags
  pub asked : new.store.asked ≡ slice_set old.store.asked index 0
  pub due : new.store.due ≡ old.store.due
  pub to : new.store.to ≡ old.store.to
  pub waves : new.store.waves ≡ old.store.waves
  pub lists : new.store.lists ≡ old.store.lists

-- the link at an index had the least key, and waits no more
pub record FreesLink (old new : Work) (index moves : ℕ) : Type 0 where
  pub within : index < length old.store.heights
  pub some : 0 < slice_index old.store.due index
  pub half : moves ≡ slice_index old.store.due index / 2
  pub least : AreFrom old.store.asked old.store.due (slice_index old.store.due index)
  pub others : AreSameBut old new
  pub asked : new.store.asked ≡ old.store.asked
  pub due : new.store.due ≡ slice_set old.store.due index 0

-- what is taken; where nothing waits nothing changes
abbrev pub Pops : Work → Work → Popped → Type 0
Pops old new Empty = AreEmpty old.store.asked old.store.due × (new ≡ old)
Pops old new (OfCell index height) = TakesCell old new index height
Pops old new (OfLink index moves) = FreesLink old new index moves

-- what the solver keeps from step to step
pub record IsWork (g : Game) (w : Work) : Type 0 where
  pub known : IsKnown g (known_of w)
  pub long : AreLong w
  pub flagged : AreFlagged g w
  pub high : AreHigh w
  pub callers : AreCallers w
  pub dues : AreDue g w
  pub found : AreFound g w.blocks.contexts.items (found_of g w)

-- what it keeps right after a cell is taken at a height
pub record IsTaken (g : Game) (w : Work) (cell : Cell) (height : ℕ) : Type 0 where
  pub known : IsKnown g (known_of w)
  pub long : AreLong w
  pub flagged : AreFlagged g w
  pub high : AreHigh w
  pub callers : AreCallers w
  pub dues : AreDue g w
  pub there : HasCell g w.blocks cell.at cell.pos.0 cell.state.0
  pub some : 0 < height
  pub taken : heights_of g (known_of w) cell.at.number cell.pos.0 cell.state.0 ≡ height
  pub right : AreRight g w.blocks.contexts.items (found_of g w)
  pub closed : AllClosed g w.blocks.contexts.items (found_of g w) (WaitsFor g cell.at.number cell.pos.0 cell.state.0)
  pub called : AllCalled g w.blocks.contexts.items (found_of g w) (CallsThere g (found_of g w) cell.at.number cell.pos.0 cell.state.0)
  pub standing : AllStanding g w.blocks.contexts.items (found_of g w) (ReturnsThere g w.blocks.contexts.items (found_of g w) cell.at.number cell.pos.0 cell.state.0)

-- .. where the cell's index is known
abbrev pub IsTakenAt : Game → Work → (index height : ℕ) → Type 0
IsTakenAt g w index height = (cell : Cell) → IsCellAt g w index cell → IsTaken g w cell height

-- after what waited is asked for, where links go to the contexts of these numbers
pub record Finishes (g : Game) (old new : Work) (numbers : List ℕ) : Type 0 where
  pub kept : IsWork g new
  pub known : known_of new ≡ known_of old
  pub to : new.store.to ≡ numbers
