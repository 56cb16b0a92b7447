-- Working definitions: what is known of contexts, positions and states, by index.
use Rattle.std.specs.Prelude.{◌≡◌, ℕ, ◌+◌, ◌≤◌, List, Option, Some, None, length, slice_get, slice_index, count_by}
use Rattle.cw_core.specs.declared.ids.PosId.{PosId}
use Rattle.cw_core.specs.declared.ids.StateId.{StateId}
use Rattle.cw_game.specs.Games.{Game}
use Rattle.cw_solve.specs.declared.contexts.Context.{Context}
use Rattle.cw_solve.specs.declared.table.Blocks.{Blocks}
use Rattle.cw_solve.specs.Tabled.{Tabled}
use Rattle.cw_solve.specs.Contexts.{cells_of}
use Rattle.cw_solve.specs.Rounds.{slot}
use Rattle.cw_solve.specs.Tables.{is_none, AreBlocks}
use Rattle.cw_linked.specs.declared.work.Cell.{Cell}
use Rattle.cw_linked.specs.declared.work.Work.{Work}

-- what is known of cells: where those of each context stand, their heights, and how many have one
pub record Known : Type 0 where
  pub blocks : Blocks
  pub heights : List ℕ
  pub written : ℕ

abbrev pub known_of : Work → Known
known_of w = record { blocks = w.blocks; heights = w.store.heights; written = w.written }

-- of needed contexts, with a height for each cell, of which so many aren't 0
pub record IsKnown (g : Game) (t : Known) : Type 0 where
  pub blocks : AreBlocks g t.blocks
  pub cells : length t.heights ≡ cells_of g t.blocks.contexts.items
  pub counted : t.written + count_by is_none t.heights ≡ length t.heights

-- the function of a context, by its number
abbrev pub function_in : Option Context → ℕ
function_in None = 0
function_in (Some c) = c.function

abbrev pub function_at : List Context → ℕ → ℕ
function_at contexts i = function_in (slice_get contexts i)

-- what stands in a list of cells
abbrev pub index_at : Game → List Context → (i p q : ℕ) → ℕ
index_at g contexts i p q = slot g contexts i (function_at contexts i) p q

abbrev pub value_at : Game → List Context → List ℕ → (i p q : ℕ) → ℕ
value_at g contexts values i p q = slice_index values (index_at g contexts i p q)

abbrev pub heights_of : Game → Known → (i p q : ℕ) → ℕ
heights_of g t = value_at g t.blocks.contexts.items t.heights

-- the cell of a context, a position and a state
abbrev pub cell_of : Tabled → PosId → StateId → Cell
cell_of at pos state = record { at = at; pos = pos; state = state }

-- no number is above this one
abbrev pub AreUpTo : List ℕ → ℕ → Type 0
AreUpTo values most = (k : ℕ) → slice_index values k ≤ most
