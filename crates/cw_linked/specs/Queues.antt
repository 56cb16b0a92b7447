-- Working definitions: what the solver's store keeps, and what is found in them.
use Rattle.std.specs.Prelude.{◌≡◌, ℕ, ◌+◌, ◌-◌, ◌*◌, ◌<◌, ◌≤◌, List, not, true, nat_eq, length, slice_index}
use Rattle.cw_game.specs.Games.{Game}
use Rattle.cw_game.specs.Pairs.{Called}
use Rattle.cw_links.specs.Flags.{is_flagged}
use Rattle.cw_links.specs.Keys.{asked_with, lowered}
use Rattle.cw_solve.specs.declared.contexts.Context.{Context}
use Rattle.cw_solve.specs.Tabled.{Tabled}
use Rattle.cw_product.specs.Routed.{IsOf}
use Rattle.cw_solve.specs.Rounds.{base, slot}
use Rattle.cw_solve.specs.Tables.{HasCell}
use Rattle.cw_linked.specs.declared.edges.Pair.{Pair}
use Rattle.cw_linked.specs.declared.work.Cell.{Cell}
use Rattle.cw_linked.specs.declared.work.Work.{Work}
use Rattle.cw_linked.specs.Founds.{Found, IsLink, AreRight, IsClosed, Nothing, AllClosed}
use Rattle.cw_linked.specs.Steps.{Lowers}
use Rattle.cw_linked.specs.Works.{known_of, index_at, value_at, heights_of, AreUpTo}

-- what is found, read off the store: a link is tied where its number isn't 0, to the context of the number before
abbrev pub found_of : Game → Work → Found
found_of g w = record {
  height = heights_of g (known_of w);
  asked = value_at g w.blocks.contexts.items w.store.asked;
  to = λ i p k. value_at g w.blocks.contexts.items w.store.to i p k - 1;
  wave = value_at g w.blocks.contexts.items w.store.waves;
  due = value_at g w.blocks.contexts.items w.store.due;
  tied = λ i p k. not (nat_eq (value_at g w.blocks.contexts.items w.store.to i p k) 0);
}

-- each list has a number for each cell
pub record AreLong (w : Work) : Type 0 where
  pub flags : length w.store.flags ≡ length w.store.heights
  pub asked : length w.store.asked ≡ length w.store.heights
  pub due : length w.store.due ≡ length w.store.heights
  pub to : length w.store.to ≡ length w.store.heights
  pub waves : length w.store.waves ≡ length w.store.heights

-- all but the keys of cells and of links is the same
pub record AreSameBut (old new : Work) : Type 0 where
  pub known : known_of new ≡ known_of old
  pub flags : new.store.flags ≡ old.store.flags
  pub to : new.store.to ≡ old.store.to
  pub waves : new.store.waves ≡ old.store.waves
  pub lists : new.store.lists ≡ old.store.lists

pub record AsksForCell (old new : Work) (index key : ℕ) : Type 0 where
  pub others : AreSameBut old new
  pub asked : new.store.asked ≡ asked_with old.store.heights old.store.asked index key
  pub due : new.store.due ≡ old.store.due

pub record AsksForLink (old new : Work) (index key : ℕ) : Type 0 where
  pub others : AreSameBut old new
  pub asked : new.store.asked ≡ old.store.asked
  pub due : new.store.due ≡ lowered old.store.due index key

-- the cell at an index
pub record IsCellAt (g : Game) (w : Work) (k : ℕ) (cell : Cell) : Type 0 where
  pub is : HasCell g w.blocks cell.at cell.pos.0 cell.state.0
  pub index : k ≡ slot g w.blocks.contexts.items cell.at.number cell.at.context.function cell.pos.0 cell.state.0

-- a context whose cells have the index among theirs
abbrev pub IsOwner : Game → List Context → (i index : ℕ) → Type 0
IsOwner g contexts i index = (i < length contexts) × (base g contexts i ≤ index) × (index < base g contexts (i + 1))

-- heights, numbers of moves and keys are no higher than so many cells have heights
pub record AreHigh (w : Work) : Type 0 where
  pub heights : AreUpTo w.store.heights w.written
  pub asked : AreUpTo w.store.asked (2 * w.written + 2)
  pub due : AreUpTo w.store.due (2 * w.written + 1)
  pub waves : AreUpTo w.store.waves w.written

-- the index of a link
abbrev pub IsLinkAt : Game → List Context → ℕ → Type 0
IsLinkAt g contexts k = (i : ℕ) × (c : Context) × (p : ℕ) × (x : ℕ) × (call : Called) × IsLink g contexts i c p x call × (k ≡ index_at g contexts i p x)

-- each is flagged
abbrev pub AreFlagged : Game → Work → Type 0
AreFlagged g w = (k : ℕ) → IsLinkAt g w.blocks.contexts.items k → is_flagged w.store.flags k ≡ true

-- only links wait as such, and one that goes to a context under more than 1
abbrev pub AreDue : Game → Work → Type 0
AreDue g w = (k : ℕ) → k < length w.store.heights → 0 < slice_index w.store.due k → IsLinkAt g w.blocks.contexts.items k × (0 < slice_index w.store.to k → 1 < slice_index w.store.due k)

-- cells and links wait under lower keys, and nothing else changes
pub record LowersKeys (g : Game) (old new : Work) : Type 0 where
  pub others : AreSameBut old new
  pub long : AreLong new
  pub high : AreHigh new
  pub lowers : Lowers g old.blocks.contexts.items (found_of g old) (value_at g old.blocks.contexts.items new.store.asked) (value_at g old.blocks.contexts.items new.store.due)
  pub right : AreRight g old.blocks.contexts.items (found_of g new)
  pub dues : AreDue g old → AreDue g new

-- and a cell is asked for where the taken heights tell that it is lost
pub record AsksImplied (g : Game) (old new : Work) (at : Tabled) (p q : ℕ) : Type 0 where
  pub step : LowersKeys g old new
  pub closed : IsClosed g (found_of g new) at.number at.context p q
  pub due : new.store.due ≡ old.store.due

-- the same of a pair beside a cell, where it is one of the cell's function
pub record AsksPair (g : Game) (old new : Work) (cell : Cell) (pair : Pair) : Type 0 where
  pub step : LowersKeys g old new
  pub closed : IsOf g cell.at.context.function pair.pos.0 → IsClosed g (found_of g new) cell.at.number cell.at.context pair.pos.0 pair.state.0

-- and of all that wait
pub record AsksWaiting (g : Game) (old new : Work) : Type 0 where
  pub step : LowersKeys g old new
  pub closed : AllClosed g old.blocks.contexts.items (found_of g new) Nothing
