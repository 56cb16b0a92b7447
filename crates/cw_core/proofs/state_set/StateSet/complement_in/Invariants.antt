use Rattle.std.proofs.Common.{◌≡◌, ℕ, ◌<◌, ◌≤◌, ◌*◌, get_or}
use Rattle.cw_core.specs.Limbs.{AreSixteenLimbs}
use Rattle.cw_core.proofs.Bits.{other_bits}
use Rattle.cw_core.proofs.state_set.StateSet.complement_in.Given as goal

abbrev pub invariant-loop-i : goal.invariant-loop-i
invariant-loop-i l = record {
  fit : AreSixteenLimbs l.limbs;
  each : (k : ℕ) → k < l.i → get_or l.limbs k 0 ≡ other_bits l.n (64 * k) (get_or l.self-inside.limbs k 0);
  rest : (k : ℕ) → l.i ≤ k → get_or l.limbs k 0 ≡ 0;
}
