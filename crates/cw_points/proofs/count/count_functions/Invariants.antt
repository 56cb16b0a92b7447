use Rattle.std.proofs.Common.{◌≡◌, ◌+◌, ◌≤◌, drop, map}
use Rattle.cw_syntax.specs.Trees.{definition_of}
use Rattle.cw_points.specs.Sizes.{size_from, capped}
use Rattle.cw_points.proofs.count.count_functions.Given as goal

abbrev pub invariant-loop-function : goal.invariant-loop-function
invariant-loop-function l = record {
  few : l.total ≤ 8193;
  counted : capped (l.total + size_from (map definition_of (drop l.function-index l.functions))) ≡ capped (size_from (map definition_of l.functions));
}
