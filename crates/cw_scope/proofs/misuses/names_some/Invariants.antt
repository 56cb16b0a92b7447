use Rattle.std.proofs.Common.{◌≡◌, drop}
use Rattle.cw_syntax.specs.Trees.{trees_of}
use Rattle.cw_scope.specs.Descriptors.{names_some}
use Rattle.cw_scope.proofs.misuses.names_some.Given as goal

abbrev pub invariant-loop-e : goal.invariant-loop-e
invariant-loop-e l = names_some l.scene (trees_of (drop l.e-index l.parts)) ≡ names_some l.scene (trees_of l.parts)
