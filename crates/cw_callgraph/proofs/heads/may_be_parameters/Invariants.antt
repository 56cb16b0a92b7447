use Rattle.std.proofs.Common.{◌≡◌, drop}
use Rattle.std.specs.List.{list_all}
use Rattle.cw_callgraph.specs.Forbidding.{may_be_parameter}
use Rattle.cw_callgraph.proofs.heads.may_be_parameters.Given as goal

abbrev pub invariant-loop-param : goal.invariant-loop-param
invariant-loop-param l = list_all may_be_parameter (drop l.param-index l.params) ≡ list_all may_be_parameter l.params
