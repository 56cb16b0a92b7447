-- Cells with heights, seen as the list of each cell's height: as long as there are cells, with `None` for a cell that is not in.
use Rattle.std.specs.Prelude.{◌≡◌, ℕ, ◌<◌, List, [], length, Option, None, Some, slice_index_or, true}
use Rattle.cw_links.specs.Lists.{list_at}
use Rattle.cw_links.specs.Rows.{has}

-- the height of a cell
abbrev pub height_at : List (Option ℕ) → ℕ → Option ℕ
height_at heights cell = slice_index_or heights cell None

-- no cell is in
abbrev pub AreOut : List (Option ℕ) → Type 0
AreOut heights = (cell : ℕ) → height_at heights cell ≡ None

-- each list has the cells of one height, and those below the floor are empty
pub record AreBuckets (lists : List (List ℕ)) (cells : ℕ) (heights : List (Option ℕ)) (floor : ℕ) : Type 0 where
  pub known : cells ≡ length heights
  pub bucket : (cell height : ℕ) → height_at heights cell ≡ Some height → has (list_at lists height) cell ≡ true
  pub height : (cell height : ℕ) → has (list_at lists height) cell ≡ true → height_at heights cell ≡ Some height
  pub lowest : (height : ℕ) → height < floor → list_at lists height ≡ []
