-- How many rows a table has, and which.
use Rattle.std.specs.Prelude.{◌≡◌, ℕ, List, Bool, Some, map, length}
use Rattle.std.specs.List.{sum_by, flat_map}
use Rattle.cw_audit_table.specs.Tables.{PlainGroup, Audit, group_at, inside_at}
use Rattle.cw_audit_search.specs.Searches.{is_row}

abbrev pub row_count : Audit → ℕ
row_count t = sum_by (λ grp. length grp.rows) t.groups

-- a function, the state in which it is entered, a position and a state
abbrev pub RowKey : Type 0
RowKey = ℕ × ℕ × ℕ × ℕ

abbrev pub is_row_key : RowKey → RowKey → Bool
is_row_key k j = is_row k.0 k.1 k.2 k.3 j.0 j.1 j.2 j.3

abbrev pub row_keys_of : List PlainGroup → List RowKey
row_keys_of groups = flat_map (λ grp. map (λ r. (grp.function, grp.entered, r.pos, r.state)) grp.rows) groups

-- the table has a row at this row key
abbrev pub HasRow : Audit → (f q p x : ℕ) → Type 0
HasRow t f q p x = (grp : PlainGroup) × (group_at t.groups f q ≡ Some grp) × ((a : ℕ) × (inside_at grp.rows p x ≡ Some a))
