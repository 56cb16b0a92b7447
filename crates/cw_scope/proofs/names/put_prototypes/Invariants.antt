use Rattle.std.proofs.Common.{◌≡◌, ◌++◌, map, drop}
use Rattle.std.specs.List.{flat_map}
use Rattle.cw_syntax.specs.Trees.{prototype_of}
use Rattle.cw_scope.specs.Names.{param_names}
use Rattle.cw_scope.proofs.names.put_prototypes.Given as goal

abbrev pub invariant-loop-proto : goal.invariant-loop-proto
invariant-loop-proto l = l.out.items ++ flat_map (λ p. param_names p.params) (map prototype_of (drop l.proto-index l.protos)) ≡ l.initial.out.items ++ flat_map (λ p. param_names p.params)
    (map prototype_of l.protos)
