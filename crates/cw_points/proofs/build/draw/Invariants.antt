use Rattle.std.proofs.Common.{◌≡◌, ◌+◌, ◌≤◌, [], length, drop, map}
use Rattle.cw_syntax.specs.Trees.{definition_of, file_of}
use Rattle.cw_points.specs.Sizes.{size_from}
use Rattle.cw_points.specs.Drawing.{drawn_of, nothing_drawn, laid_from, parted}
use Rattle.cw_points.proofs.build.draw.Given as goal

abbrev pub invariant-loop-number : goal.invariant-loop-number
invariant-loop-number l = record {
  few : length l.draft.nodes.items + size_from (map definition_of (drop l.number l.function-items)) ≤ 8192;
  drawn : laid_from l.scene l.number (map definition_of (drop l.number l.function-items)) (drawn_of l.draft) ≡ laid_from
      l.scene 0 (file_of l.program).functions nothing_drawn;
  parts : parted l.scene (map definition_of (drop l.number l.function-items)) (drawn_of l.draft) l.parts.items ≡ parted
      l.scene (file_of l.program).functions nothing_drawn [];
}
