use Rattle.std.proofs.Common.{◌≡◌, length, ap, ◌∙◌, arith, rules, slice_index_or}
use Rattle.std.specs.Prelude.{min}
use Rattle.cw_rights.specs.Policies.{policy_of}
use Rattle.cw_points.specs.declared.graph.Node.{Node}
use Rattle.cw_positions.specs.Positions.{width, bases}
use Rattle.cw_positions.proofs.Begins.{begin_found, begins_length}
use Rattle.cw_positions.proofs.layout.base.Goals as goal

pub bounds-begins-min : goal.bounds-begins-min
bounds-begins-min c =
    let w = λ (n : Node). width (policy_of c.args.policy.now) c.args.graph.now.parts.items n.point in
    omega (arith, c.min.ensures, ap length c.requires.begins, begins_length w c.args.graph.now.nodes.items)

pub returns : goal.returns
returns c =
    let w = λ (n : Node). width (policy_of c.args.policy.now) c.args.graph.now.parts.items n.point in
    let e : c.min.result ≡ min c.args.point.0 (length c.args.graph.now.nodes.items) = search rules in
    record {
      base = ap (λ l. slice_index_or l c.min.result 0) c.requires.begins
          ∙ ap (λ i. slice_index_or (bases c.args.graph.now (policy_of c.args.policy.now)) i 0) e
          ∙ begin_found w c.args.graph.now.nodes.items c.args.point.0 0;
    }
