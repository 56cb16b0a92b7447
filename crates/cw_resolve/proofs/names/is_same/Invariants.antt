use Rattle.std.proofs.Common.{◌≡◌, ◌≤◌, ◌<◌, ℕ, length, get_or}
use Rattle.cw_resolve.proofs.names.is_same.Given as goal

abbrev pub invariant-bytes : goal.invariant-bytes
invariant-bytes l = record {
  many : length l.name ≡ length l.other;
  within : l.at ≤ length l.name;
  same : (k : ℕ) → l.at ≤ k → k < length l.name → get_or l.name k 0 ≡ get_or l.other k 0;
}

abbrev pub decreases-bytes : goal.decreases-bytes
decreases-bytes l = l.at
