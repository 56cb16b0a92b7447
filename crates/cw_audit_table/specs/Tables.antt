-- The table of an audit as plain data, and its rows by what they are asked for.
use Rattle.std.specs.Prelude.{◌≡◌, ℕ, ◌<◌, ◌^◌, List, Option, Some, option_map, find, map, nat_eq, ◌&&◌, length, slice_get}
use Rattle.cw_core.specs.declared.ids.PosId.{PosId}
use Rattle.cw_core.specs.declared.ids.StateId.{StateId}
use Rattle.cw_certs.specs.declared.moves.Move.{Move}
use Rattle.cw_audit_table.specs.declared.table.Group.{Group}
use Rattle.cw_audit_table.specs.declared.table.AuditTable.{AuditTable}

-- A row: its position and state, and how many moves it is from its group's entry.
pub record PlainRow : Type 0 where
  pub pos : ℕ
  pub state : ℕ
  pub inside : ℕ

-- A group: its function and the state in which it is entered, how many moves that is from the start, and its rows.
pub record PlainGroup : Type 0 where
  pub function : ℕ
  pub entered : ℕ
  pub reach : ℕ
  pub rows : List PlainRow

-- An audit: how many states the game has, the distance if there is one, the moves that show it, and the groups.
pub record Audit : Type 0 where
  pub states : ℕ
  pub distance : Option ℕ
  pub moves : List Move
  pub groups : List PlainGroup

abbrev pub row_of : PosId × StateId × ℕ → PlainRow
row_of r = record { pos = r.0.0; state = r.1.0; inside = r.2 }

abbrev pub group_of : Group → PlainGroup
group_of g = record { function = g.function; entered = g.entered.0; reach = g.reach; rows = map row_of g.rows.items }

abbrev pub audit_of : AuditTable → Audit
audit_of t = record { states = t.states; distance = t.distance; moves = t.moves.items; groups = map group_of t.groups.items }

-- groups and rows can be numbered
pub record AreFew (groups : List Group) : Type 0 where
  pub groups_few : length groups < 2 ^ 32
  pub rows_few : (i : ℕ) (grp : Group) → slice_get groups i ≡ Some grp → length grp.rows.items < 2 ^ 32

-- the group of a function with the state in which it is entered; how many moves a group's row at a pair is from its entry
abbrev pub group_at : List PlainGroup → (f q : ℕ) → Option PlainGroup
group_at groups f q = find (λ g. nat_eq g.function f && nat_eq g.entered q) groups

abbrev pub inside_at : List PlainRow → (p x : ℕ) → Option ℕ
inside_at rows p x = option_map (λ r. r.inside) (find (λ r. nat_eq r.pos p && nat_eq r.state x) rows)
