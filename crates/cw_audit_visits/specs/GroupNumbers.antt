-- The numbers of groups, as rows have them.
use Rattle.std.specs.Prelude.{ℕ, List, [], ◌∷◌, Option, Some, None, length, min, slice_get}
use Rattle.std.specs.Option.{unwrap_or}
use Rattle.indexmap.specs.IndexMap.{index_of}
use Rattle.cw_audit_store.specs.declared.row_key.Entrance.{Entrance}
use Rattle.cw_audit_store.specs.declared.row_key.RowKey.{RowKey}
use Rattle.cw_audit_store.specs.declared.row_key.Row.{Row}
use Rattle.cw_audit_store.specs.declared.store.Store.{Store}
use Rattle.cw_audit_store.specs.Stores.{entrance_eq}

-- in 32 bits
abbrev pub short : ℕ → ℕ
short number = min number 4294967295

-- that of the entrance's group or, where there is none, of the next one
abbrev pub number_of : Store → Entrance → ℕ
number_of s entrance = short (unwrap_or (index_of entrance_eq s.groups entrance) (length s.groups.entries))

abbrev pub group_in : Option (RowKey × Row) → ℕ
group_in None = 0
group_in (Some (row_key, row)) = row.group

-- that which the row with the first of the numbers has
abbrev pub group_of : Store → List ℕ → ℕ
group_of s [] = 0
group_of s (number ∷ more) = group_in (slice_get s.rows.entries number)
