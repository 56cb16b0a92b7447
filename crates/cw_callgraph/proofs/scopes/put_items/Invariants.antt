use Rattle.std.proofs.Common.{◌≡◌, ◌++◌, map, drop}
use Rattle.std.specs.List.{filter}
use Rattle.cw_syntax.specs.Trees.{declared_of}
use Rattle.cw_callgraph.specs.Scoping.{global, has_shape}
use Rattle.cw_callgraph.proofs.scopes.put_items.Given as goal

abbrev pub invariant-loop-item : goal.invariant-loop-item
invariant-loop-item l = l.out.items ++ map (global l.arrays) (filter (has_shape l.arrays) (map declared_of (drop l.item-index l.items))) ≡ l.initial.out.items
    ++ map (global l.arrays) (filter (has_shape l.arrays) (map declared_of l.items))
