use Rattle.std.proofs.Common.{length, ap, ◌∙◌, arith, slice_index_or}
use Rattle.cw_points.specs.declared.graph.Node.{Node}
use Rattle.cw_positions.specs.Positions.{width}
use Rattle.cw_positions.proofs.Begins.{begin_within, begins_length}
use Rattle.cw_positions.proofs.layout.Positions.first.Goals as goal

pub returns : goal.returns
returns c = record {
  first = λ graph policy e.
      let w = λ (n : Node). width policy graph.parts.items n.point in
      c.index.ensures ∙ ap (λ l. slice_index_or l c.args.point.0 c.index.result.now) e
      ∙ begin_within w graph.nodes.items c.args.point.0 c.index.result.now
      (omega (arith, c.requires.point, ap length e, begins_length w graph.nodes.items));
}
