use Rattle.std.proofs.Common.{◌≡◌, ◌++◌, map, drop}
use Rattle.std.specs.List.{flat_map}
use Rattle.cw_syntax.specs.Trees.{declaration_of}
use Rattle.cw_scope.specs.Names.{declared_names}
use Rattle.cw_scope.proofs.names.put_declarations.Given as goal

abbrev pub invariant-loop-declaration : goal.invariant-loop-declaration
invariant-loop-declaration l = l.out.items ++ flat_map declared_names (map declaration_of (drop l.declaration-index l.declarations)) ≡ l.initial.out.items ++ flat_map declared_names
    (map declaration_of l.declarations)
