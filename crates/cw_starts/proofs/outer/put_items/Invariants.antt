use Rattle.std.proofs.Common.{◌≡◌, ◌++◌, map, drop}
use Rattle.cw_syntax.specs.Trees.{declared_of}
use Rattle.cw_starts.specs.Held.{item_at}
use Rattle.cw_starts.proofs.outer.put_items.Given as goal

abbrev pub invariant-loop-item : goal.invariant-loop-item
invariant-loop-item l = map item_at l.out.items ++ map declared_of (drop l.item-index l.items) ≡ map item_at l.initial.out.items ++ map declared_of l.items
