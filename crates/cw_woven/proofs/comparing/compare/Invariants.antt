use Rattle.std.proofs.Common.{◌≡◌, ◌≤◌, ◌+◌, ℕ, map, drop, length}
use Rattle.cw_rights.specs.Policies.{policy_of}
use Rattle.cw_syntax.specs.Marks.{mark_of}
use Rattle.cw_emit.specs.Woven.{placed}
use Rattle.cw_woven.specs.Parts.{places, places_from, without}
use Rattle.cw_woven.specs.Held.{insertion_of}
use Rattle.cw_woven.specs.Reading.{IsFirstDifference}
use Rattle.cw_woven.proofs.comparing.compare.Given as goal

abbrev pub invariant-loop-insertion : goal.invariant-loop-insertion
invariant-loop-insertion l = record {
  count : l.n ≡ l.insertion-index;
  within : l.n ≤ length l.marks;
  bytes : l.place + length (without (map insertion_of (drop l.insertion-index l.insertions)) l.left) ≡ length l.source;
  same : places_from l.place (map insertion_of (drop l.insertion-index l.insertions)) ≡ map (placed (policy_of l.policy) l.source) (map mark_of (drop l.n l.marks)) → places (map insertion_of l.insertions) ≡ map (placed (policy_of l.policy) l.source) (map mark_of l.marks);
  differs : (k : ℕ) → IsFirstDifference (places_from l.place (map insertion_of (drop l.insertion-index l.insertions))) (map (placed (policy_of l.policy) l.source) (map mark_of (drop l.n l.marks))) k → IsFirstDifference (places (map insertion_of l.insertions)) (map (placed (policy_of l.policy) l.source) (map mark_of l.marks)) (l.n + k);
}
