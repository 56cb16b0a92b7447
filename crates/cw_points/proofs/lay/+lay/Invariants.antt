use Rattle.std.proofs.Common.{◌≡◌, ◌+◌, ◌≤◌, length, drop}
use Rattle.cw_syntax.specs.Trees.{statements_of}
use Rattle.cw_points.specs.Sizes.{size_all}
use Rattle.cw_points.specs.Drawing.{drawn_of, laid_all}
use Rattle.cw_points.proofs.lay.+lay.Given as goal

abbrev pub invariant-lay_all-loop-i : goal.invariant-lay_all-loop-i
invariant-lay_all-loop-i l = record {
  few : length l.draft.nodes.items + size_all (statements_of (drop l.i l.statements)) ≤ 8192;
  left : l.left ≡ size_all (statements_of (drop l.i l.statements));
  drawn : laid_all l.scene l.function (statements_of (drop l.i l.statements)) l.ways (drawn_of l.draft) ≡ laid_all
      l.scene l.function (statements_of l.statements) l.ways (drawn_of l.initial.draft);
}
