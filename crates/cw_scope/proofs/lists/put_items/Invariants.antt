use Rattle.std.proofs.Common.{◌≡◌, ◌++◌, map, drop}
use Rattle.std.specs.List.{flat_map}
use Rattle.cw_syntax.specs.Trees.{declared_of}
use Rattle.cw_scope.specs.Walks.{inner, item_trees}
use Rattle.cw_scope.specs.Held.{whole_of}
use Rattle.cw_scope.proofs.lists.put_items.Given as goal

abbrev pub invariant-loop-item : goal.invariant-loop-item
invariant-loop-item l = map whole_of l.out.items ++ map inner (flat_map item_trees (map declared_of (drop l.item-index l.items))) ≡ map whole_of l.initial.out.items ++ map inner
    (flat_map item_trees (map declared_of l.items))
