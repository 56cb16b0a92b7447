-- What names hold: of a name that is no array a value, of an array a value for each element; each may be unset.
use Rattle.std.specs.Prelude.{ℕ, ℤ, List, [], Option, None, slice_get, slice_set, unwrap_or}

abbrev pub Cell : Type 0
Cell = Option ℤ

-- the values of some names: of those that are no arrays, and of the arrays
pub record Store : Type 0 where
  pub cells : List Cell
  pub arrays : List (List Cell)

-- a value's spot among them: that of a name, or of an element of an array
pub data Spot : Type 0 where
  Plain : ℕ → Spot
  Element : (array at : ℕ) → Spot

abbrev pub array_of : Store → ℕ → List Cell
array_of s n = unwrap_or (slice_get s.arrays n) []

abbrev pub cell_of : Store → Spot → Cell
cell_of s (Plain n) = unwrap_or (slice_get s.cells n) None
cell_of s (Element n i) = unwrap_or (slice_get (array_of s n) i) None

abbrev pub with_array : Store → ℕ → List Cell → Store
with_array s n cells = record s { arrays = slice_set s.arrays n cells }

abbrev pub with_cell : Store → Spot → Cell → Store
with_cell s (Plain n) c = record s { cells = slice_set s.cells n c }
with_cell s (Element n i) c = with_array s n (slice_set (array_of s n) i c)
