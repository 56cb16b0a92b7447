use Rattle.std.proofs.Common.{◌≡◌, ◌+◌, ◌≤◌, drop}
use Rattle.cw_syntax.specs.Trees.{statements_of}
use Rattle.cw_points.specs.Sizes.{size_all, capped}
use Rattle.cw_points.proofs.count.+counts.Given as goal

abbrev pub invariant-count_all-loop-statement : goal.invariant-count_all-loop-statement
invariant-count_all-loop-statement l = record {
  few : l.total ≤ 8193;
  counted : capped (l.total + size_all (statements_of (drop l.statement-index l.statements))) ≡ capped (size_all (statements_of l.statements));
}
