use Rattle.std.proofs.Common.{◌≡◌, ◌++◌, map, drop}
use Rattle.cw_syntax.specs.Trees.{prototype_of}
use Rattle.cw_scope.proofs.names.put_prototype_names.Given as goal

abbrev pub invariant-loop-proto : goal.invariant-loop-proto
invariant-loop-proto l = l.out.items ++ map (λ p. p.name) (map prototype_of (drop l.proto-index l.protos)) ≡ l.initial.out.items ++ map (λ p. p.name) (map prototype_of l.protos)
