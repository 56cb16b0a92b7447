use Rattle.std.proofs.Common.{◌≡◌, ◌++◌, map, drop}
use Rattle.cw_syntax.specs.Trees.{declared_of}
use Rattle.cw_starts.specs.Owning.{own_in, own_of}
use Rattle.cw_starts.proofs.owns.put_items.Given as goal

abbrev pub invariant-loop-item : goal.invariant-loop-item
invariant-loop-item l = map own_in l.out.items ++ map (own_of l.fixed) (map declared_of (drop l.item-index l.items)) ≡ map own_in l.initial.out.items ++ map (own_of l.fixed) (map declared_of l.items)
