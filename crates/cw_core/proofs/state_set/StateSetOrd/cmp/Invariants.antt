use Rattle.std.proofs.Common.{◌≡◌, ℕ, ◌≤◌, get_or}
use Rattle.cw_core.proofs.state_set.StateSetOrd.cmp.Given as goal

abbrev pub invariant-loop-i : goal.invariant-loop-i
invariant-loop-i l = (k : ℕ) → l.i ≤ k → get_or l.self-inside.limbs k 0 ≡ get_or l.other-inside.limbs k 0
