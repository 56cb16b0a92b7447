use Rattle.std.proofs.Common.{◌≡◌, ◌+◌, map}
use Rattle.std.specs.List.{range_with_len}
use Rattle.cw_rights.specs.Policies.{policy_of}
use Rattle.cw_positions.specs.Positions.{base_of}
use Rattle.cw_positions.proofs.layout.bases.Given as goal

abbrev pub invariant-loop-node : goal.invariant-loop-node
invariant-loop-node l = record {
  end : l.end ≡ base_of l.graph (policy_of l.policy) l.node-index;
  bases : l.bases.items ≡ map (base_of l.graph (policy_of l.policy)) (range_with_len 0 (l.node-index + 1));
}
