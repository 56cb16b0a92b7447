-- Rows of values that stand one behind the other, and lists of cells as such rows.
use Rattle.std.specs.Prelude.{◌≡◌, ℕ, ◌+◌, ◌-◌, ◌<◌, ◌≤◌, List, [], ◌++◌, Option, Some, length, map, take, slice_get, slice_range, slice_index, slice_index_or}
use Rattle.std.specs.List.{range_with_len}
use Rattle.cw_links.specs.Lists.{Chained, list_at}

-- from where it begins to where the next one does
abbrev pub row_of : {T : Type 0} → List T → List ℕ → ℕ → List T
row_of values firsts k = slice_range values (slice_index firsts k) (slice_index firsts (k + 1))

-- all rows: there is one number more, where the last one ends
abbrev pub rows_of : {T : Type 0} → List T → List ℕ → List (List T)
rows_of values firsts = map (row_of values firsts) (range_with_len 0 (length firsts - 1))

-- no row ends before it begins, or behind the last value
pub record AreFlat {T : Type 0} (values : List T) (firsts : List ℕ) : Type 0 where
  pub some : 0 < length firsts
  pub rise : (k : ℕ) → k + 1 < length firsts → slice_index firsts k ≤ slice_index firsts (k + 1)
  pub within : (k : ℕ) → slice_index firsts k ≤ length values

-- the row of a number
abbrev pub row_at : {T : Type 0} → List (List T) → ℕ → List T
row_at rows k = slice_index_or rows k []

-- the values of a list's cells, one behind the other
abbrev pub HasValues : {T : Type 0} → Chained T → List ℕ → List T → Type 0
HasValues chains list row = map Some row ≡ map (slice_get chains.values) list

-- each list is a row, of the values of its cells
abbrev pub AreRowsOf : {T : Type 0} → Chained T → List (List T) → Type 0
AreRowsOf chains rows = map (map Some) rows ≡ map (map (slice_get chains.values)) chains.lists

-- the first lists are, and the next row begins behind all values
pub record AreRowsTo {T : Type 0} (chains : Chained T) (values : List T) (firsts : List ℕ) (many : ℕ) : Type 0 where
  pub flat : AreFlat values firsts
  pub long : length firsts ≡ many + 1
  pub last : slice_index firsts many ≡ length values
  pub rows : map (map Some) (rows_of values firsts) ≡ map (map (slice_get chains.values)) (take many chains.lists)

-- the values of a list's cells are put behind the others
abbrev pub PushesList : {T : Type 0} → Chained T → ℕ → (old new : List T) → Type 0
PushesList {T} chains list old new = (row : List T) × (new ≡ old ++ row) × HasValues chains (list_at chains.lists list) row

-- the first cells of a list are walked over, and their values put behind the others
pub record IsWalked {T : Type 0} (chains : Chained T) (list : List ℕ) (old now : List T) (next : Option ℕ) : Type 0 where
  pub front : List ℕ
  pub back : List ℕ
  pub row : List T
  pub parts : list ≡ front ++ back
  pub at : next ≡ slice_get back 0
  pub grown : now ≡ old ++ row
  pub read : HasValues chains front row
