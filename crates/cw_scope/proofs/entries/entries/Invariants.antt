use Rattle.std.proofs.Common.{◌≡◌, ◌++◌, map, drop}
use Rattle.std.specs.List.{flat_map}
use Rattle.cw_syntax.specs.Trees.{declaration_of, file_of}
use Rattle.cw_scope.specs.Descriptors.{entries_of}
use Rattle.cw_scope.specs.Held.{entry_of}
use Rattle.cw_scope.proofs.entries.entries.Given as goal

abbrev pub invariant-loop-declaration : goal.invariant-loop-declaration
invariant-loop-declaration l = map entry_of l.out.items ++ flat_map (entries_of (file_of l.program)) (map declaration_of (drop l.declaration-index l.declaration-items)) ≡ flat_map
    (entries_of (file_of l.program)) (map declaration_of l.declaration-items)
