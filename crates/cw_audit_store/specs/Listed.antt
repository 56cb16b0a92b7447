-- Numbers of rows, in lists by entrances and by groups.
use Rattle.std.specs.Prelude.{ℕ, List, [], Option, Some, None, slice_get}
use Rattle.std.specs.Global.{Vec}
use Rattle.indexmap.specs.IndexMap.{get}
use Rattle.cw_audit_store.specs.declared.row_key.Entrance.{Entrance}
use Rattle.cw_audit_store.specs.declared.lists.Lists.{Lists}
use Rattle.cw_audit_store.specs.declared.group_lists.GroupLists.{GroupLists}
use Rattle.cw_audit_store.specs.Stores.{entrance_eq}

abbrev pub items_in : Option (Vec ℕ) → List ℕ
items_in None = []
items_in (Some numbers) = numbers.items

-- the list of an entrance
abbrev pub list_of : Lists → Entrance → List ℕ
list_of s entrance = items_in (get entrance_eq s.lists entrance)

-- the list of the group with a number
abbrev pub numbers_of : GroupLists → ℕ → List ℕ
numbers_of s group = items_in (slice_get s.lists.items group)
