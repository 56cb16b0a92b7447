use Rattle.std.proofs.Common.{◌≡◌, ◌++◌, drop}
use Rattle.cw_callgraph.specs.Scoping.{parameters}
use Rattle.cw_callgraph.proofs.scopes.put_parameters.Given as goal

abbrev pub invariant-loop-param : goal.invariant-loop-param
invariant-loop-param l = l.known.items ++ parameters (drop l.param-index l.params) ≡ l.initial.known.items ++ parameters l.params
