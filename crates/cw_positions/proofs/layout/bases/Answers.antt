use Rattle.std.proofs.Common.{length, ap, ◌∙◌, arith}
use Rattle.cw_rights.specs.Policies.{policy_of}
use Rattle.cw_points.specs.declared.graph.Node.{Node}
use Rattle.cw_positions.specs.Positions.{width}
use Rattle.cw_positions.proofs.Begins.{begins_more}
use Rattle.cw_positions.proofs.Lengths.{base_small, end_step}
use Rattle.cw_positions.proofs.layout.bases.Goals as goal

pub overflow_add-end : goal.overflow_add-end
overflow_add-end c =
    let small = base_small (policy_of c.args.policy.now) c.args.graph.now.parts.items c.requires.valid.few_limits c.args.graph.now.nodes.items
    c.loop-node.node-index in
    omega (
      arith,
      c.loop-node.invariant.end,
      small,
      c.width-end.ensures.small,
      c.requires.few,
      c.loop-node-test.true,
      ap length
          c.deref-node-items.ensures.value,
    )

pub loop-node-preserved : goal.loop-node-preserved
loop-node-preserved c =
    let policy = policy_of c.args.policy.now in
    let parts = c.args.graph.now.parts.items in
    let ns = c.args.graph.now.nodes.items in
    let more = end_step policy parts c.deref.result.now c.deref.ensures.value ns c.deref-node-items.result.now c.deref-node-items.ensures.value
    c.loop-node.node-index c.loop-node.end c.width-end.result _ c.loop-node-test.true c.loop-node.invariant.end c.width-end.ensures.width in
    record {
      end = more;
      bases = c.in_ok-push-2.ensures.items
          ∙ begins_more (λ (n : Node). width policy parts n.point) ns c.loop-node.node-index _ c.loop-node.bases.items c.loop-node.invariant.bases
          more;
    }
