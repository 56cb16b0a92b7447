use Rattle.std.proofs.Common.{length, ap, arith}
use Rattle.cw_rights.specs.Policies.{policy_of}
use Rattle.cw_positions.proofs.Lengths.{base_small, end_step, end_all}
use Rattle.cw_positions.proofs.widths.count.Goals as goal

pub overflow_add-count : goal.overflow_add-count
overflow_add-count c =
    let small = base_small (policy_of c.args.policy.now) c.args.graph.now.parts.items c.requires.valid.few_limits c.args.graph.now.nodes.items
    c.loop-node.node-index in
    omega (
      arith,
      c.loop-node.invariant,
      small,
      c.width-count.ensures.small,
      c.requires.few,
      c.loop-node-test.true,
      ap length
          c.deref-node-items.ensures.value,
    )

pub loop-node-preserved : goal.loop-node-preserved
loop-node-preserved c =
    end_step (policy_of c.args.policy.now) c.args.graph.now.parts.items c.deref.result.now c.deref.ensures.value c.args.graph.now.nodes.items
    c.deref-node-items.result.now
    c.deref-node-items.ensures.value c.loop-node.node-index c.loop-node.count c.width-count.result _ c.loop-node-test.true c.loop-node.invariant
    c.width-count.ensures.width

pub returns-clause-count : goal.returns-clause-count
returns-clause-count c =
    end_all (policy_of c.args.policy.now) c.args.graph.now.parts.items c.args.graph.now.nodes.items c.deref-node-items.result.now
    c.deref-node-items.ensures.value
    c.loop-node.node-index c.loop-node.count c.loop-node.auto.node-index-end c.loop-node-test.false c.loop-node.invariant

pub returns-clause-small : goal.returns-clause-small
returns-clause-small c =
    let small = base_small (policy_of c.args.policy.now) c.args.graph.now.parts.items c.requires.valid.few_limits c.args.graph.now.nodes.items
    c.loop-node.node-index in
    omega (arith, c.loop-node.invariant, small, c.loop-node.auto.node-index-end, ap length c.deref-node-items.ensures.value)
