use Rattle.std.proofs.Common.{map, sym, ◌∙◌, arith}
use Rattle.cw_syntax.specs.Marks.{mark_of}
use Rattle.cw_points.proofs.Marked.{one_mark, no_mark, marks_of_graph}
use Rattle.cw_points.proofs.marks.marks.Goals as goal

pub loop-seam-preserved : goal.loop-seam-preserved
loop-seam-preserved c =
    one_mark c.args.graph.now.nodes.items c.deref.result.now c.args.graph.now.seams.items c.deref-seam-items.result.now c.loop-seam.seam-index _ c.mark_in.result c.loop-seam.marks.items
    c.put_mark.new.marks.items _
    c.deref.ensures.value c.deref-seam-items.ensures.value c.loop-seam-test.true c.mark_in.ensures c.in_ok-put_mark.ensures c.loop-seam.invariant

pub returns : goal.returns
returns c = record {
  marks = λ names source file h.
      sym (no_mark c.args.graph.now.nodes.items c.args.graph.now.seams.items c.deref-seam-items.result.now c.loop-seam.seam-index
      (map mark_of c.loop-seam.marks.items) c.deref-seam-items.ensures.value (omega (arith, c.loop-seam-test.false)))
      ∙ c.loop-seam.invariant ∙ marks_of_graph names source file c.args.graph.now h;
}
