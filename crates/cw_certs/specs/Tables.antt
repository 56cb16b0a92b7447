-- The table of a woven program. It tells, by seam and by the number of what the program remembers, what is tried and
-- what is remembered next.
use Rattle.std.specs.Prelude.{ℕ, List, Bool, true, false, ◌&&◌, Option, option_map, find, nat_eq, slice_get}
use Rattle.cw_core.specs.declared.ids.StateId.{StateId}
use Rattle.cw_core.specs.declared.ids.MemId.{MemId}
use Rattle.cw_core.specs.declared.ids.PosId.{PosId}
use Rattle.cw_certs.specs.declared.rows.TryRow.{TryRow}
use Rattle.cw_certs.specs.declared.rows.AtRow.{AtRow}
use Rattle.cw_certs.specs.declared.rows.OpenRow.{OpenRow}
use Rattle.cw_certs.specs.declared.rows.IntoRow.{IntoRow}
use Rattle.cw_certs.specs.declared.rows.BackRow.{BackRow}

-- `mems` has the state and the promise of each memory, by its number. A promise is the set of the states in which the function may end.
-- `live` has the positions and memories that a run may come to.
pub record Table : Type 0 where
  pub states : ℕ
  pub start : MemId
  pub mems : List (StateId × ℕ)
  pub live : List (PosId × MemId)
  pub tries : List TryRow
  pub ats : List AtRow
  pub opened : List OpenRow
  pub closed : List AtRow
  pub into : List IntoRow
  pub back : List BackRow

-- the table of these lists
abbrev pub table_with : ℕ → MemId → List (StateId × ℕ) → List (PosId × MemId) → List TryRow → List AtRow → List OpenRow → List AtRow → List IntoRow → List BackRow → Table
table_with states start mems live tries ats opened closed into back = record {
  states = states;
  start = start;
  mems = mems;
  live = live;
  tries = tries;
  ats = ats;
  opened = opened;
  closed = closed;
  into = into;
  back = back;
}

abbrev pub same : Bool → Bool → Bool
same true b = b
same false true = false
same false false = true

-- The rows by their keys.
abbrev pub try_at : Table → ℕ → ℕ → ℕ → Option TryRow
try_at t seam stage m = find (λ r. nat_eq r.seam.0 seam && (nat_eq r.stage stage && nat_eq r.mem.0 m)) t.tries

abbrev pub after_at : List AtRow → ℕ → ℕ → Option AtRow
after_at rows seam m = find (λ r. nat_eq r.seam.0 seam && nat_eq r.mem.0 m) rows

abbrev pub open_at : Table → ℕ → ℕ → Option OpenRow
open_at t seam m = find (λ r. nat_eq r.seam.0 seam && nat_eq r.mem.0 m) t.opened

abbrev pub into_at : Table → ℕ → Bool → ℕ → Option IntoRow
into_at t seam split m = find (λ r. nat_eq r.seam.0 seam && (same r.split split && nat_eq r.mem.0 m)) t.into

abbrev pub back_at : Table → ℕ → Bool → ℕ → ℕ → Option BackRow
back_at t seam split m exit = find (λ r. nat_eq r.seam.0 seam && (same r.split split && (nat_eq r.mem.0 m && nat_eq r.exit.0 exit))) t.back

-- the state that a memory means
abbrev pub state_of : Table → ℕ → Option ℕ
state_of t m = option_map (λ r. r.0.0) (slice_get t.mems m)
