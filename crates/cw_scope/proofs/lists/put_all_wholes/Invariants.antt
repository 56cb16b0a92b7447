use Rattle.std.proofs.Common.{◌≡◌, ◌++◌, map, drop}
use Rattle.std.specs.List.{flat_map}
use Rattle.cw_scope.specs.Walks.{wholes_of}
use Rattle.cw_scope.specs.Held.{nested_of, whole_of}
use Rattle.cw_scope.proofs.lists.put_all_wholes.Given as goal

abbrev pub invariant-loop-nested : goal.invariant-loop-nested
invariant-loop-nested l = map whole_of l.out.items ++ flat_map (λ p. wholes_of p.statement) (map nested_of (drop l.nested-index l.statements)) ≡ map whole_of l.initial.out.items ++ flat_map
    (λ p. wholes_of p.statement) (map nested_of l.statements)
