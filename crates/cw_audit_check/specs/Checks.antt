-- What the check of an audit asks for and tells, over the program's data.
use Rattle.std.specs.Prelude.{◌≡◌, ℕ, ◌+◌, ◌<◌, ◌≤◌, ◌^◌, List, ◌∷◌, Bool, true, cond, not, ◌||◌, Option, Some, None, length, slice_get}
use Rattle.std.specs.List.{enumerate_from}
use Rattle.std.specs.List.Sorted.{IsStrictlySortedBy}
use Rattle.std.specs.declared.cmp.Ordering.{Ordering}
use Rattle.std.specs.Ordering.{ordering_then, nat_cmp}
use Rattle.cw_core.specs.declared.ids.PosId.{PosId}
use Rattle.cw_core.specs.declared.ids.StateId.{StateId}
use Rattle.cw_certs.specs.declared.moves.Move.{Move}
use Rattle.cw_model.specs.Boards.{Problem}
use Rattle.cw_game.specs.Games.{Game}
use Rattle.cw_game.specs.Standing.{IsGameOf}
use Rattle.cw_product.specs.Moves.{next_at}
use Rattle.cw_audit_table.specs.declared.table.Group.{Group}
use Rattle.cw_audit_table.specs.Plays.{IsViolating}
use Rattle.cw_audit_table.specs.Tables.{PlainRow, PlainGroup, Audit, row_of, group_at}
use Rattle.cw_audit_table.specs.Conditions.{GroupFault, fault_at, is_before, has_within, is_pair, enters, begins, row_faults}
use Rattle.cw_audit_check.specs.declared.check.BadGroup.{BadGroup}

abbrev pub fault_of : BadGroup → GroupFault
fault_of bad = fault_at bad.group bad.row bad.condition

-- What a yes gives: in each program of the game no play in which the weaver always skips violates by fewer moves than the distance, and none at all where
-- the table has no distance.
abbrev pub Bounds : Game → Audit → Type 0
Bounds g t = (p : Problem) → IsGameOf p g → (ms : List Move) → IsViolating p ms → (T : ℕ) × (t.distance ≡ Some T) × (T ≤ length ms)

-- rows by position, then state; groups by function, then state
abbrev pub row_cmp : PosId × StateId × ℕ → PosId × StateId × ℕ → Ordering
row_cmp a b = ordering_then (nat_cmp a.0.0 b.0.0) (nat_cmp a.1.0 b.1.0)

abbrev pub group_cmp : Group → Group → Ordering
group_cmp a b = ordering_then (nat_cmp a.function b.function) (nat_cmp a.entered.0 b.entered.0)

-- A group's function is there, its rows are in range and ascend strictly; and so each group, the groups ascending strictly.
pub record IsInRange (g : Game) (functions : ℕ) (grp : Group) : Type 0 where
  pub there : grp.function < functions
  pub pairs : (n : ℕ) (r : PosId × StateId × ℕ) → slice_get grp.rows.items n ≡ Some r → is_pair g grp.function (row_of r) ≡ true
  pub ascend : IsStrictlySortedBy row_cmp grp.rows.items

pub record AreInRange (g : Game) (functions : ℕ) (groups : List Group) : Type 0 where
  pub ascend : IsStrictlySortedBy group_cmp groups
  pub each : (i : ℕ) (grp : Group) → slice_get groups i ≡ Some grp → IsInRange g functions grp

-- a pair that is given has a row, which is at most n
abbrev pub takes_pair : Game → List PlainRow → ℕ → Option (ℕ × ℕ) → Bool
takes_pair g rows n None = true
takes_pair g rows n (Some r) = has_within g rows n r.0 r.1

-- the pair after a move that is given, where the game gives one, has a row, which is at most one more
abbrev pub takes_if : Game → List PlainRow → PlainRow → Option Move → Bool
takes_if g rows r None = true
takes_if g rows r (Some by) = takes_pair g rows (r.inside + 1) (next_at g r.pos r.state by)

-- the condition, where it fails
abbrev pub unless : ℕ → Bool → Option ℕ
unless condition holds = cond holds None (Some condition)

-- condition 5 at a call of h that returns to k
abbrev pub calls_by : Game → Audit → PlainGroup → PlainRow → (h k : ℕ) → Bool
calls_by g t grp r h k = not (is_before t.distance (grp.reach + r.inside + 1)) || enters g t.distance grp r h k (group_at t.groups h r.state)

-- the conditions of a group, and those of its rows
abbrev pub group_conditions : Game → Audit → (i : ℕ) → PlainGroup → List (GroupFault × Bool)
group_conditions g t i grp = (fault_at i 0 2, begins g grp) ∷ row_faults g t i grp (enumerate_from 0 grp.rows)
