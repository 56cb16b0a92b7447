use Rattle.std.proofs.Common.{◌≡◌, ◌++◌, map, drop}
use Rattle.cw_syntax.specs.Trees.{declared_of}
use Rattle.cw_scope.proofs.names.put_items.Given as goal

abbrev pub invariant-loop-item : goal.invariant-loop-item
invariant-loop-item l = l.out.items ++ map (λ i. i.name) (map declared_of (drop l.item-index l.items)) ≡ l.initial.out.items ++ map (λ i. i.name) (map declared_of l.items)
