-- What a search has found, as functions.
use Rattle.std.specs.Prelude.{ℕ, ◌+◌, ◌-◌, ◌*◌, ◌^◌, Bool, true, ◌&&◌, Option, Some, None, nat_eq, nat_lt, sum_by}
use Rattle.std.specs.declared.cmp.Ordering.{Ordering}
use Rattle.std.specs.Ordering.{ordering_then, nat_cmp}
use Rattle.indexmap.specs.IndexMap.{IndexMap, get, values}
use Rattle.cw_audit_store.specs.declared.row_key.Entrance.{Entrance}
use Rattle.cw_audit_store.specs.declared.row_key.RowKey.{RowKey}
use Rattle.cw_audit_store.specs.declared.row_key.Row.{Row}
use Rattle.cw_audit_store.specs.declared.row_key.Entered.{Entered}
use Rattle.cw_audit_store.specs.declared.row_key.Hit.{Hit}
use Rattle.cw_audit_store.specs.declared.store.Store.{Store}

abbrev pub entrance_cmp : Entrance → Entrance → Ordering
entrance_cmp a b = ordering_then (nat_cmp a.function b.function) (nat_cmp a.state.0 b.state.0)

abbrev pub row_key_cmp : RowKey → RowKey → Ordering
row_key_cmp a b = ordering_then (entrance_cmp a.entrance b.entrance) (ordering_then (nat_cmp a.pos.0 b.pos.0) (nat_cmp a.state.0 b.state.0))

-- whether two are the same
abbrev pub entrance_eq : Entrance → Entrance → Bool
entrance_eq a b = nat_eq a.function b.function && nat_eq a.state.0 b.state.0

abbrev pub row_key_eq : RowKey → RowKey → Bool
row_key_eq a b = entrance_eq a.entrance b.entrance && (nat_eq a.pos.0 b.pos.0 && nat_eq a.state.0 b.state.0)

abbrev pub row_at : Store → RowKey → Option Row
row_at s row_key = get row_key_eq s.rows row_key

abbrev pub group_at : Store → Entrance → Option Entered
group_at s entrance = get entrance_eq s.groups entrance

-- the number is less than that which is there, or there is none yet
abbrev pub is_lower_by : {X : Type 0} → (X → ℕ) → ℕ → Option X → Bool
is_lower_by number n None = true
is_lower_by number n (Some x) = nat_lt n (number x)

abbrev pub is_lower : ℕ → Option Row → Bool
is_lower n old = is_lower_by (λ (r : Row). r.inside) n old

abbrev pub is_sooner : ℕ → Option Entered → Bool
is_sooner n old = is_lower_by (λ (e : Entered). e.reach) n old

abbrev pub is_nearer : ℕ → Option Hit → Bool
is_nearer n old = is_lower_by (λ (h : Hit). h.distance) n old

-- how far a number is below all that are not
abbrev pub gap : ℕ → ℕ
gap n = 65538 - n

abbrev pub hit_gap : Option Hit → ℕ
hit_gap None = 0
hit_gap (Some h) = gap h.distance

-- what was done: how far the numbers that were found are below those that are not
abbrev pub rows_done : {S : Type 0} → IndexMap RowKey Row S → ℕ
rows_done m = sum_by (λ (r : Row). gap r.inside) (values m)

abbrev pub groups_done : {S : Type 0} → IndexMap Entrance Entered S → ℕ
groups_done m = sum_by (λ (e : Entered). gap e.reach) (values m)

-- what is left to do: there are fewer than 2 ^ 63 rows, and groups, and one violation
abbrev pub work : Store → ℕ
work s = 2 ^ 64 * 65538 - (rows_done s.rows + groups_done s.groups + hit_gap s.hit)
