use Rattle.std.proofs.Common.{◌≡◌, ◌++◌, map, drop}
use Rattle.std.specs.List.{flat_map}
use Rattle.cw_syntax.specs.Trees.{declaration_of}
use Rattle.cw_callgraph.specs.Scoping.{globals_in}
use Rattle.cw_callgraph.proofs.scopes.put_globals.Given as goal

abbrev pub invariant-loop-declaration : goal.invariant-loop-declaration
invariant-loop-declaration l = l.out.items ++ flat_map (globals_in l.arrays) (map declaration_of (drop l.declaration-index l.declarations)) ≡ l.initial.out.items
    ++ flat_map (globals_in l.arrays) (map declaration_of l.declarations)
