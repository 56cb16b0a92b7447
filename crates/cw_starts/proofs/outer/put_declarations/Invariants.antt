use Rattle.std.proofs.Common.{◌≡◌, ◌++◌, map, drop}
use Rattle.std.specs.List.{flat_map}
use Rattle.cw_syntax.specs.Trees.{declaration_of}
use Rattle.cw_starts.specs.Held.{item_at}
use Rattle.cw_starts.proofs.outer.put_declarations.Given as goal

abbrev pub invariant-loop-declaration : goal.invariant-loop-declaration
invariant-loop-declaration l =
    map item_at l.out.items ++ flat_map (λ d. d.items) (map declaration_of (drop l.declaration-index l.declarations)) ≡ map item_at l.initial.out.items
    ++ flat_map (λ d. d.items) (map declaration_of l.declarations)
