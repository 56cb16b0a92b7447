use Rattle.std.proofs.Common.{◌≡◌, ◌++◌, map, drop}
use Rattle.cw_syntax.specs.Trees.{declared_of}
use Rattle.cw_callgraph.specs.Scoping.{local}
use Rattle.cw_callgraph.specs.Forbidding.{in_items}
use Rattle.cw_callgraph.specs.Walking.{source_at, file_at}
use Rattle.cw_callgraph.proofs.statements.put_items.Given as goal

abbrev pub invariant-loop-item : goal.invariant-loop-item
invariant-loop-item l = record {
  places : l.out.items ++ in_items (source_at l.setting) (file_at l.setting) l.inner.items l.external (map declared_of (drop l.item-index l.items)) ≡ l.initial.out.items
      ++ in_items (source_at l.setting) (file_at l.setting) l.initial.inner.items l.external (map declared_of l.items);
  known : l.inner.items ++ map (local (source_at l.setting) (file_at l.setting) l.external) (map declared_of (drop l.item-index l.items)) ≡ l.initial.inner.items
      ++ map (local (source_at l.setting) (file_at l.setting) l.external) (map declared_of l.items);
}
