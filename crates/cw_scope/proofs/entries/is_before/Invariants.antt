use Rattle.std.proofs.Common.{◌≡◌, map, drop}
use Rattle.cw_syntax.specs.Trees.{definition_of}
use Rattle.cw_scope.specs.Descriptors.{is_before}
use Rattle.cw_scope.proofs.entries.is_before.Given as goal

abbrev pub invariant-loop-function : goal.invariant-loop-function
invariant-loop-function l = is_before l.place (map definition_of (drop l.function-index l.functions)) ≡ is_before l.place (map definition_of l.functions)
