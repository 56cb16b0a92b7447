use Rattle.std.proofs.Common.{◌≡◌, ◌++◌, map, drop}
use Rattle.cw_syntax.specs.Trees.{declared_of, declaration_of, file_of}
use Rattle.cw_scope.specs.Descriptors.{entry_in}
use Rattle.cw_scope.specs.Held.{entry_of}
use Rattle.cw_scope.proofs.entries.put_entries.Given as goal

abbrev pub invariant-loop-item : goal.invariant-loop-item
invariant-loop-item l = map entry_of l.out.items ++ map (entry_in (file_of l.program) (declaration_of l.declaration))
    (map declared_of (drop l.item-index l.item-items)) ≡ map entry_of l.initial.out.items ++ map (entry_in (file_of l.program) (declaration_of l.declaration)) (map declared_of l.item-items)
