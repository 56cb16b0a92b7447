-- The order of a strategy's backs.
use Rattle.std.specs.Prelude.{ℕ, Contains}
use Rattle.std.specs.List.Sorted.{IsStrictlySortedBy}
use Rattle.std.specs.declared.cmp.Ordering.{Ordering}
use Rattle.std.specs.Ordering.{nat_cmp}
use Rattle.cw_certs.specs.Strategies.{How, Into, Row, Strategy}

-- by exit state
abbrev pub back_cmp : ℕ × ℕ → ℕ × ℕ → Ordering
back_cmp a b = nat_cmp a.0 b.0

abbrev pub Ascends : How → Type 0
Ascends (Into callee backs) = IsStrictlySortedBy back_cmp backs
Ascends _ = Unit {0}

-- The backs of each row ascend strictly by exit state.
abbrev pub BacksAscend : Strategy → Type 0
BacksAscend s = (r : Row) → Contains s.rows r → Ascends r.how
