-- What a solver keeps by indices: a height and a key for each cell, and of the few indices that are links their keys, where they go and for how long.
use Rattle.std.specs.Prelude.{◌≡◌, ℕ, ◌/◌, ◌<◌, ◌≤◌, List, [], ◌∷◌, ◌++◌, Bool, true, false, length, replicate, slice_set}
use Rattle.cw_core.specs.Quantities.{limit_of}
use Rattle.cw_core.specs.declared.quantity.Quantity.TheVariants.{Cells}
use Rattle.cw_links.specs.Flags.{is_flagged, number, rank, spread}
use Rattle.cw_links.specs.declared.popped.Popped.{Popped}
use Rattle.cw_links.specs.declared.popped.Popped.TheVariants.{Nothing as Empty, Cell as OfCell, Link as OfLink}
use Rattle.cw_links.specs.Callers.{Calling}
use Rattle.cw_links.specs.Keys.{Keyed, AreFrom, AreEmpty, Takes}

-- Which indices are links. Of each index the height of its cell and the key under which it waits, each 0 where there is none; and of its link the key, the
-- number of the list in which it stands, and a number of moves, each 0 at indices that are no links. The lists have links by their rank among the links.
pub record Stored : Type 0 where
  pub flags : List Bool
  pub heights : List ℕ
  pub asked : List ℕ
  pub due : List ℕ
  pub to : List ℕ
  pub waves : List ℕ
  pub lists : List (List ℕ)

-- there is a key for each index, and values for each link
pub record AreStored (flags : List Bool) (keys : Keyed) (callers : Calling) (waves : List ℕ) : Type 0 where
  pub few : length flags ≤ limit_of Cells
  pub keys_of_cells : length keys.asked ≡ length flags
  pub keys_of_links : length keys.due ≡ number flags
  pub lists_of_links : length callers.to ≡ number flags
  pub waves_of_links : length waves ≡ number flags

-- what is told of keys and values of links: each at its index
abbrev pub stored : List Bool → Keyed → Calling → List ℕ → Stored
stored flags keys callers waves = record {
  flags = flags;
  heights = keys.heights;
  asked = keys.asked;
  due = spread flags keys.due;
  to = spread flags callers.to;
  waves = spread flags waves;
  lists = callers.lists;
}

-- no indices, and two lists
pub record IsBlank (s : Stored) : Type 0 where
  pub flags : s.flags ≡ []
  pub heights : s.heights ≡ []
  pub asked : s.asked ≡ []
  pub due : s.due ≡ []
  pub to : s.to ≡ []
  pub waves : s.waves ≡ []
  pub lists : length s.lists ≡ 2

-- the same with other heights and keys of cells, other keys of cells alone, other keys of links, or other lists
abbrev pub with_cells : Stored → (heights asked : List ℕ) → Stored
with_cells s heights asked = record { flags = s.flags; heights = heights; asked = asked; due = s.due; to = s.to; waves = s.waves; lists = s.lists }

abbrev pub with_asked : Stored → List ℕ → Stored
with_asked s asked = with_cells s s.heights asked

abbrev pub with_due : Stored → List ℕ → Stored
with_due s due = record { flags = s.flags; heights = s.heights; asked = s.asked; due = due; to = s.to; waves = s.waves; lists = s.lists }

abbrev pub with_lists : Stored → List (List ℕ) → Stored
with_lists s lists = record { flags = s.flags; heights = s.heights; asked = s.asked; due = s.due; to = s.to; waves = s.waves; lists = lists }

-- a link that is taken is one of the links ..
abbrev pub IsKnown : List Bool → Popped → Type 0
IsKnown flags Empty = Unit {0}
IsKnown flags (OfCell index key) = Unit {0}
IsKnown flags (OfLink link key) = link < number flags

-- .. and is told by its index
abbrev pub IsAt : List Bool → (popped result : Popped) → Type 0
IsAt flags Empty result = result ≡ Empty
IsAt flags (OfCell index key) result = result ≡ OfCell index key
IsAt flags (OfLink link key) result = (index : ℕ) × (is_flagged flags index ≡ true) × (rank flags index ≡ link) × (result ≡ OfLink index key)

-- what is taken from under the least key, by its index; a cell has half that as its height from then on
abbrev pub PopsIndex : (old new : Stored) → Popped → Type 0
PopsIndex old new Empty = AreEmpty old.asked old.due × (new ≡ old)
PopsIndex old new (OfCell index key) = AreFrom old.asked old.due key × Takes old.asked new.asked index key × (new ≡ with_cells old (slice_set old.heights index (key / 2)) new.asked)
PopsIndex old new (OfLink index key) = AreFrom old.asked old.due key × Takes old.due new.due index key × (is_flagged old.flags index ≡ true) × (new ≡ with_due old new.due)

-- an index more, of which nothing has a height or waits
pub record Pushes (old new : Stored) (flag : Bool) : Type 0 where
  pub flags : new.flags ≡ old.flags ++ flag ∷ []
  pub heights : new.heights ≡ old.heights ++ 0 ∷ []
  pub asked : new.asked ≡ old.asked ++ 0 ∷ []
  pub due : new.due ≡ old.due ++ 0 ∷ []
  pub to : new.to ≡ old.to ++ 0 ∷ []
  pub waves : new.waves ≡ old.waves ++ 0 ∷ []
  pub lists : length new.lists ≡ length old.lists

-- so many indices more, none of which is a link, has a height or waits
pub record PushesPlain (old new : Stored) (many : ℕ) : Type 0 where
  pub flags : new.flags ≡ old.flags ++ replicate many false
  pub heights : new.heights ≡ old.heights ++ replicate many 0
  pub asked : new.asked ≡ old.asked ++ replicate many 0
  pub due : new.due ≡ old.due ++ replicate many 0
  pub to : new.to ≡ old.to ++ replicate many 0
  pub waves : new.waves ≡ old.waves ++ replicate many 0
  pub lists : new.lists ≡ old.lists

-- the link at an index stands in a list, with a number of moves
pub record Ties (old new : Stored) (index list moves : ℕ) : Type 0 where
  pub flags : new.flags ≡ old.flags
  pub heights : new.heights ≡ old.heights
  pub asked : new.asked ≡ old.asked
  pub due : new.due ≡ old.due
  pub to : new.to ≡ slice_set old.to index list
  pub waves : new.waves ≡ slice_set old.waves index moves
  pub lists : length new.lists ≡ length old.lists
