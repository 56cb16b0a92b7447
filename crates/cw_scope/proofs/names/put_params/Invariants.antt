use Rattle.std.proofs.Common.{◌≡◌, ◌++◌, drop}
use Rattle.cw_scope.specs.Names.{param_names}
use Rattle.cw_scope.proofs.names.put_params.Given as goal

abbrev pub invariant-loop-param : goal.invariant-loop-param
invariant-loop-param l = l.out.items ++ param_names (drop l.param-index l.params) ≡ l.initial.out.items ++ param_names l.params
