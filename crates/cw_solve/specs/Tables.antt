-- Working definitions: what a table of heights keeps.
use Rattle.std.specs.Prelude.{◌≡◌, ℕ, suc, ◌+◌, ◌<◌, ◌≤◌, List, Bool, Some, nat_eq, length, slice_get, slice_index, slice_set, take, count_by, Contains}
use Rattle.cw_core.specs.Quantities.{limit_of}
use Rattle.cw_core.specs.declared.quantity.Quantity.TheVariants.{Cells}
use Rattle.cw_game.specs.Games.{Game}
use Rattle.cw_game.specs.Pairs.{all_states, call_spot}
use Rattle.cw_solve.specs.declared.contexts.Context.{Context}
use Rattle.cw_solve.specs.declared.table.Blocks.{Blocks}
use Rattle.cw_solve.specs.declared.table.Table.{Table}
use Rattle.cw_solve.specs.Tabled.{Tabled}
use Rattle.cw_solve.specs.Contexts.{context, cells_of, HeightIs, IsNeeded, AreNeeded}
use Rattle.cw_solve.specs.Rounds.{slot, height_by, IsCell, AreWritten, AreLooked, WereAsked}

abbrev pub is_none : ℕ → Bool
is_none k = nat_eq k 0

-- Needed contexts, `main` with all states first, each with where its cells begin.
pub record AreBlocks (g : Game) (b : Blocks) : Type 0 where
  pub first : slice_get b.contexts.items 0 ≡ Some (context g.main (all_states g))
  pub needed : AreNeeded g b.contexts.items
  pub begins : (i : ℕ) → i < length b.contexts.items → slice_index b.bases.items i ≡ cells_of g (take i b.contexts.items)
  pub bases : length b.bases.items ≡ length b.contexts.items
  pub few : cells_of g b.contexts.items ≤ limit_of Cells

-- A height for each of their cells, and how many aren't 0.
pub record IsTable (g : Game) (t : Table) : Type 0 where
  pub blocks : AreBlocks g t.blocks
  pub cells : length t.heights.items ≡ cells_of g t.blocks.contexts.items
  pub counted : t.written + count_by is_none t.heights.items ≡ length t.heights.items

-- before round n + 1
pub record IsAtRound (g : Game) (t : Table) (n : ℕ) : Type 0 where
  pub written : AreWritten g t.blocks.contexts.items t.heights.items n n
  pub asked : WereAsked g t.blocks.contexts.items n
  pub low : n ≤ t.written

-- in round n + 1, before this cell
pub record IsInRound (g : Game) (t : Table) (n before : ℕ) : Type 0 where
  pub written : AreWritten g t.blocks.contexts.items t.heights.items n (suc n)
  pub looked : AreLooked g t.blocks.contexts.items t.heights.items n before
  pub low : n ≤ t.written

-- of the same contexts, with no fewer heights, and where there are as many with the same
pub record IsLater (old new : Table) : Type 0 where
  pub blocks : new.blocks ≡ old.blocks
  pub more : old.written ≤ new.written
  pub same : old.written ≡ new.written → new.heights.items ≡ old.heights.items

-- a context with its number, which is tabled
abbrev pub IsTabled : Blocks → Tabled → Type 0
IsTabled b at = slice_get b.contexts.items at.number ≡ Some at.context

-- the cell of a pair in a tabled context
abbrev pub HasCell : Game → Blocks → Tabled → ℕ → ℕ → Type 0
HasCell g b at p q = IsCell g b.contexts.items at.number at.context p q

-- a context that is needed and not tabled
pub record IsMissing (g : Game) (b : Blocks) (c : Context) : Type 0 where
  pub needed : IsNeeded g c
  pub new : Contains b.contexts.items c → ⊥

-- a call stands at p, of this function, which returns to this position, plain or split
abbrev pub HasCall : Game → (p function back : ℕ) → Bool → Type 0
HasCall g p function back split = (seam : ℕ) × (slice_get g.spots p ≡ Some (call_spot split seam function back))

-- the cell's height is written, where it had none, and nothing else
pub record Writes (old new : Table) (cell height : ℕ) : Type 0 where
  pub blocks : new.blocks ≡ old.blocks
  pub some : (slice_index old.heights.items cell ≡ 0 → ⊥) → (new.heights.items ≡ old.heights.items) × (new.written ≡ old.written)
  pub none : slice_index old.heights.items cell ≡ 0 → (new.heights.items ≡ slice_set old.heights.items cell height) × (new.written ≡ old.written + 1)
  pub counted : new.written + count_by is_none new.heights.items ≡ length new.heights.items

-- what is written are the heights, and the contexts are all that are needed
pub record IsDone (g : Game) (t : Table) : Type 0 where
  pub heights : (i : ℕ) (c : Context) (p q : ℕ) → IsCell g t.blocks.contexts.items i c p q
      → HeightIs g p q c.promise (height_by (slice_index t.heights.items (slot g t.blocks.contexts.items i c.function p q)))
  pub all : (c : Context) → IsNeeded g c → Contains t.blocks.contexts.items c

-- contexts of which a table may be made: needed, `main` with all states first, and not too many cells
pub record AreTabled (g : Game) (contexts : List Context) : Type 0 where
  pub first : slice_get contexts 0 ≡ Some (context g.main (all_states g))
  pub needed : AreNeeded g contexts
  pub few : cells_of g contexts ≤ limit_of Cells
