use Rattle.std.proofs.Common.{◌≡◌, map, drop}
use Rattle.cw_syntax.specs.Trees.{definition_of}
use Rattle.cw_value.specs.Starts.{shape_in}
use Rattle.cw_starts.proofs.owns.shape_in.Given as goal

abbrev pub invariant-loop-function : goal.invariant-loop-function
invariant-loop-function l = shape_in l.source l.outer (map definition_of (drop l.function-index l.functions)) ≡ shape_in l.source l.outer (map definition_of l.functions)
