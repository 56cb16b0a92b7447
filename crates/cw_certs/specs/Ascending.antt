-- The keys of the lists of a table, and that each list ascends strictly by its key.
use Rattle.std.specs.Prelude.{ℕ}
use Rattle.std.specs.List.Sorted.{IsStrictlySortedBy}
use Rattle.std.specs.declared.cmp.Ordering.{Ordering}
use Rattle.std.specs.Ordering.{ordering_then, nat_cmp, bool_cmp}
use Rattle.cw_core.specs.declared.ids.StateId.{StateId}
use Rattle.cw_core.specs.declared.ids.MemId.{MemId}
use Rattle.cw_core.specs.declared.ids.PosId.{PosId}
use Rattle.cw_certs.specs.declared.rows.TryRow.{TryRow}
use Rattle.cw_certs.specs.declared.rows.AtRow.{AtRow}
use Rattle.cw_certs.specs.declared.rows.OpenRow.{OpenRow}
use Rattle.cw_certs.specs.declared.rows.IntoRow.{IntoRow}
use Rattle.cw_certs.specs.declared.rows.BackRow.{BackRow}
use Rattle.cw_certs.specs.Tables.{Table}

-- by state, then promise, a set being compared as the sum of the powers of two of its members
abbrev pub mem_cmp : StateId × ℕ → StateId × ℕ → Ordering
mem_cmp a b = ordering_then (nat_cmp a.0.0 b.0.0) (nat_cmp a.1 b.1)

-- by position, then memory
abbrev pub live_cmp : PosId × MemId → PosId × MemId → Ordering
live_cmp a b = ordering_then (nat_cmp a.0.0 b.0.0) (nat_cmp a.1.0 b.1.0)

-- by seam, stage, memory
abbrev pub try_cmp : TryRow → TryRow → Ordering
try_cmp a b = ordering_then (nat_cmp a.seam.0 b.seam.0) (ordering_then (nat_cmp a.stage b.stage) (nat_cmp a.mem.0 b.mem.0))

-- by seam, then memory
abbrev pub at_cmp : AtRow → AtRow → Ordering
at_cmp a b = ordering_then (nat_cmp a.seam.0 b.seam.0) (nat_cmp a.mem.0 b.mem.0)

abbrev pub open_cmp : OpenRow → OpenRow → Ordering
open_cmp a b = ordering_then (nat_cmp a.seam.0 b.seam.0) (nat_cmp a.mem.0 b.mem.0)

-- by seam, mode (plain before split), memory
abbrev pub into_cmp : IntoRow → IntoRow → Ordering
into_cmp a b = ordering_then (nat_cmp a.seam.0 b.seam.0) (ordering_then (bool_cmp a.split b.split) (nat_cmp a.mem.0 b.mem.0))

-- by seam, mode, memory, exit state
abbrev pub back_cmp : BackRow → BackRow → Ordering
back_cmp a b = ordering_then (nat_cmp a.seam.0 b.seam.0) (ordering_then (bool_cmp a.split b.split) (ordering_then (nat_cmp a.mem.0 b.mem.0) (nat_cmp a.exit.0 b.exit.0)))

-- Each of the eight lists ascends strictly by its key; so no two of its rows have one key.
pub record Ascends (t : Table) : Type 0 where
  pub mems : IsStrictlySortedBy mem_cmp t.mems
  pub live : IsStrictlySortedBy live_cmp t.live
  pub tries : IsStrictlySortedBy try_cmp t.tries
  pub ats : IsStrictlySortedBy at_cmp t.ats
  pub opened : IsStrictlySortedBy open_cmp t.opened
  pub closed : IsStrictlySortedBy at_cmp t.closed
  pub into : IsStrictlySortedBy into_cmp t.into
  pub back : IsStrictlySortedBy back_cmp t.back
