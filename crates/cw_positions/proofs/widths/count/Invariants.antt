use Rattle.std.proofs.Common.{◌≡◌}
use Rattle.cw_rights.specs.Policies.{policy_of}
use Rattle.cw_positions.specs.Positions.{base}
use Rattle.cw_positions.proofs.widths.count.Given as goal

abbrev pub invariant-loop-node : goal.invariant-loop-node
invariant-loop-node l = l.count ≡ base (policy_of l.policy) l.graph.parts.items l.graph.nodes.items l.node-index
