use Rattle.std.proofs.Common.{◌≡◌, ◌++◌, map, drop}
use Rattle.std.specs.List.{flat_map}
use Rattle.cw_syntax.specs.Trees.{declaration_of}
use Rattle.cw_value.specs.Machines.{names_of}
use Rattle.cw_slots.specs.Texts.{of_shape, text_at}
use Rattle.cw_slots.proofs.declared.put_declarations.Given as goal

abbrev pub invariant-loop-declaration : goal.invariant-loop-declaration
invariant-loop-declaration l = map text_at l.out.items ++ names_of l.source (of_shape l.arrays) (flat_map (λ d. d.items) (map declaration_of (drop l.declaration-index l.declarations)))
    ≡ map text_at l.initial.out.items ++ names_of l.source (of_shape l.arrays) (flat_map (λ d. d.items) (map declaration_of (l.declarations)))
