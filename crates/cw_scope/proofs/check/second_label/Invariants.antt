use Rattle.std.proofs.Common.{◌≡◌, map, drop}
use Rattle.cw_syntax.specs.Trees.{definition_of}
use Rattle.cw_scope.specs.Rules.{second_label}
use Rattle.cw_scope.proofs.check.second_label.Given as goal

abbrev pub invariant-loop-function : goal.invariant-loop-function
invariant-loop-function l = second_label l.source (map definition_of (drop l.function-index l.functions)) ≡ second_label l.source (map definition_of l.functions)
