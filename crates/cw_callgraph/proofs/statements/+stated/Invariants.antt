use Rattle.std.proofs.Common.{◌≡◌, ◌++◌, drop}
use Rattle.cw_syntax.specs.Trees.{statements_of}
use Rattle.cw_callgraph.specs.Forbidding.{stated_all, known_after_all}
use Rattle.cw_callgraph.specs.Walking.{scene_at, file_at}
use Rattle.cw_callgraph.proofs.statements.+stated.Given as goal

abbrev pub invariant-put_statements-loop-statement : goal.invariant-put_statements-loop-statement
invariant-put_statements-loop-statement l = record {
  places : l.out.items ++ stated_all (scene_at l.setting) (file_at l.setting) l.inner.items (statements_of (drop l.statement-index l.statements)) ≡ l.initial.out.items
      ++ stated_all (scene_at l.setting) (file_at l.setting) l.initial.inner.items (statements_of l.statements);
  known : l.inner.items ++ known_after_all (scene_at l.setting) (file_at l.setting) (statements_of (drop l.statement-index l.statements)) ≡ l.initial.inner.items
      ++ known_after_all (scene_at l.setting) (file_at l.setting) (statements_of l.statements);
}
