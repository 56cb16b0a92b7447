use Rattle.std.proofs.Common.{◌≡◌, ◌++◌, map, drop}
use Rattle.cw_syntax.specs.Marks.{mark_of}
use Rattle.cw_points.specs.Marking.{marks_by}
use Rattle.cw_points.proofs.marks.marks.Given as goal

abbrev pub invariant-loop-seam : goal.invariant-loop-seam
invariant-loop-seam l = map mark_of l.marks.items ++ marks_by l.graph.nodes.items (drop l.seam-index l.graph.seams.items) ≡ marks_by l.graph.nodes.items l.graph.seams.items
