-- A count over several calls, for callers: where it rose in one of them, it rose over all.
use Rattle.std.proofs.Common.{ℕ, ◌≤◌, arith}
use Rattle.cw_io.specs.Causes.{Rose}

pub then_rose : (before mid now : ℕ) → before ≤ mid → Rose mid now → Rose before now
then_rose before mid now later rose = omega (arith, later, rose)

-- a count that is the constant 0 never rises
pub never_rose : Rose 0 0 → ⊥
never_rose rose = omega (arith, rose)
