use Rattle.std.proofs.Common.{◌≡◌, ◌++◌, map, drop}
use Rattle.std.specs.List.{flat_map}
use Rattle.cw_value.specs.Machines.{declared_by, names_of}
use Rattle.cw_slots.specs.Texts.{of_shape, statement_at, text_at}
use Rattle.cw_slots.proofs.declared.put_statements.Given as goal

abbrev pub invariant-loop-statement : goal.invariant-loop-statement
invariant-loop-statement l = map text_at l.out.items ++ names_of l.source (of_shape l.arrays) (flat_map declared_by (map statement_at (drop l.statement-index l.statements)))
    ≡ map text_at l.initial.out.items ++ names_of l.source (of_shape l.arrays) (flat_map declared_by (map statement_at (l.statements)))
