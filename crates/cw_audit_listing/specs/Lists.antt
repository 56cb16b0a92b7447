-- Row keys of a store, and the rows and groups that are read of them.
use Rattle.std.specs.Prelude.{◌≡◌, ℕ, ◌+◌, ◌<◌, ◌≤◌, List, [], ◌∷◌, ◌++◌, Bool, false, Option, Some, None, map, length, nat_lt}
use Rattle.std.specs.List.{AllByRecursion, IsDistinct}
use Rattle.cw_core.specs.declared.ids.PosId.{PosId}
use Rattle.cw_core.specs.declared.ids.StateId.{StateId}
use Rattle.cw_audit_table.specs.Runs.{cut}
use Rattle.cw_audit_table.specs.Tables.{PlainRow, PlainGroup, row_of}
use Rattle.cw_audit_store.specs.declared.row_key.Entrance.{Entrance}
use Rattle.cw_audit_store.specs.declared.row_key.RowKey.{RowKey}
use Rattle.cw_audit_store.specs.declared.row_key.Entered.{Entered}
use Rattle.cw_audit_store.specs.declared.row_key.Row.{Row}
use Rattle.cw_audit_store.specs.declared.store.Store.{Store}
use Rattle.cw_audit_store.specs.Stores.{row_at, group_at}
use Rattle.cw_audit_store.specs.Finding.{found_of}
use Rattle.cw_audit_search.specs.Counted.{RowKey as PlainRowKey, is_row_key}
use Rattle.cw_audit_search.specs.Grouped.{Ascend, IsRowRight, EndsBefore, AreGrouped, AreBelow}

abbrev pub plain : RowKey → PlainRowKey
plain p = (p.entrance.function, p.entrance.state.0, p.pos.0, p.state.0)

-- the row key has a row, and its entrance a group
abbrev pub IsKnown : Store → RowKey → Type 0
IsKnown s p =
    ((r : ℕ) × ((found_of s).reach p.entrance.function p.entrance.state.0 ≡ Some r))
    × ((a : ℕ) × ((found_of s).number p.entrance.function p.entrance.state.0 p.pos.0 p.state.0 ≡ Some a))

abbrev pub AreKnown : Store → List RowKey → Type 0
AreKnown s row_keys = AllByRecursion (IsKnown s) row_keys

-- a group of the entrance with these rows
abbrev pub ARow : Type 0
ARow = PosId × StateId × ℕ

abbrev pub group : Entrance → ℕ → List ARow → PlainGroup
group e reach rows = record { function = e.function; entered = e.state.0; reach = reach; rows = map row_of rows }

abbrev pub row_key_in : Entrance → PlainRow → PlainRowKey
row_key_in e r = (e.function, e.state.0, r.pos, r.state)

-- The row keys begin with that of this row of the entrance, and the rest follows.
pub record IsNext (s : Store) (e : Entrance) (row_keys rest : List RowKey) (row : ARow) : Type 0 where
  pub whole : map plain row_keys ≡ row_key_in e (row_of row) ∷ map plain rest
  pub right : IsRowRight (found_of s) (group e 0 []) (row_of row)
  pub known : AreKnown s rest
  pub less : length rest < length row_keys

-- The row keys begin with those of these rows of the entrance, and the rest follows.
pub record AreRead (s : Store) (e : Entrance) (row_keys rest : List RowKey) (rows : List ARow) : Type 0 where
  pub whole : map plain row_keys ≡ map (row_key_in e) (map row_of rows) ++ map plain rest
  pub right : AllByRecursion (IsRowRight (found_of s) (group e 0 [])) (map row_of rows)
  pub known : AreKnown s rest

-- none of the row keys is the entrance's first
abbrev pub Ends : Entrance → List RowKey → Type 0
Ends e row_keys = EndsBefore (group e 0 []) (map plain row_keys)

-- The row keys are those of these groups and the rest, all of them in the store.
pub record AreSoFar (s : Store) (row_keys rest : List RowKey) (groups : List PlainGroup) : Type 0 where
  pub grouped : AreGrouped (found_of s) (map plain row_keys) (map plain rest) groups
  pub known : AreKnown s rest

-- The sum of a row key's row and its group's reach, cut, is below the bound.
abbrev pub is_below_by : (bound : ℕ) → Option Entered → Option Row → Bool
is_below_by bound (Some e) (Some r) = nat_lt (cut (e.reach + r.inside)) bound
is_below_by bound _ _ = false

abbrev pub is_below : Store → (bound : ℕ) → RowKey → Bool
is_below s bound at = is_below_by bound (group_at s at.entrance) (row_at s at)

-- the bound is the distance's; where there is none, it is past all numbers
abbrev pub IsLimit : (bound : ℕ) → Option ℕ → Type 0
IsLimit bound None = 65538 ≤ bound
IsLimit bound (Some d) = d ≡ bound

-- These row keys, each with its row and its group, none of them twice, are those below each distance of the bound.
pub record AreAllBelow (s : Store) (bound : ℕ) (row_keys : List RowKey) : Type 0 where
  pub known : AreKnown s row_keys
  pub distinct : IsDistinct is_row_key (map plain row_keys)
  pub below : (D : Option ℕ) → IsLimit bound D → AreBelow (found_of s) D (map plain row_keys)

-- The second list has the row keys of the first, and they ascend.
pub record AreOrdered (row_keys ordered : List RowKey) : Type 0 where
  pub many : length ordered ≡ length row_keys
  pub below : (s : Store) (bound : ℕ) → AreAllBelow s bound row_keys → AreAllBelow s bound ordered
  pub ascend : (s : Store) (bound : ℕ) → AreAllBelow s bound row_keys → Ascend (map plain ordered)
