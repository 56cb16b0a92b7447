use Rattle.std.proofs.Common.{◌≡◌, ◌++◌, map, drop}
use Rattle.cw_syntax.specs.Trees.{trees_of}
use Rattle.cw_scope.specs.Mentions.{names_all, calls_all}
use Rattle.cw_scope.specs.Held.{tree_at}
use Rattle.cw_scope.proofs.walks.+mentions.Given as goal

abbrev pub invariant-put_all_mentions-loop-e : goal.invariant-put_all_mentions-loop-e
invariant-put_all_mentions-loop-e l = record {
  names : l.names.items ++ names_all (trees_of (drop l.e-index l.parts)) ≡ l.initial.names.items ++ names_all (trees_of l.parts);
  calls : map tree_at l.calls.items ++ calls_all (trees_of (drop l.e-index l.parts)) ≡ map tree_at l.initial.calls.items ++ calls_all (trees_of l.parts);
}
