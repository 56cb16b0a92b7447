use Rattle.std.proofs.Common.{◌≡◌, ◌++◌, map, drop}
use Rattle.cw_syntax.specs.Trees.{declared_of}
use Rattle.cw_value.specs.Machines.{names_of}
use Rattle.cw_slots.specs.Texts.{of_shape, text_at}
use Rattle.cw_slots.proofs.declared.put_items.Given as goal

abbrev pub invariant-loop-item : goal.invariant-loop-item
invariant-loop-item l = map text_at l.out.items ++ names_of l.source (of_shape l.arrays) (map declared_of (drop l.item-index l.items)) ≡ map text_at l.initial.out.items
    ++ names_of l.source (of_shape l.arrays) (map declared_of (l.items))
