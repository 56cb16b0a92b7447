use Rattle.std.proofs.Common.{◌≡◌, take}
use Rattle.std.specs.List.{flat_map}
use Rattle.cw_rights.specs.Policies.{policy_of}
use Rattle.cw_positions.specs.Positions.{base_of, spots_at}
use Rattle.cw_positions.proofs.layout.spots.Given as goal

abbrev pub invariant-loop-node : goal.invariant-loop-node
invariant-loop-node l =
    l.spots.items ≡ flat_map (spots_at (policy_of l.policy) l.graph.parts.items (base_of l.graph (policy_of l.policy)))
    (take l.node-index l.graph.nodes.items)
