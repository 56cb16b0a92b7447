use Rattle.std.proofs.Common.{◌≡◌, drop}
use Rattle.cw_scope.specs.Descriptors.{is_shadowed}
use Rattle.cw_scope.proofs.descriptors.is_shadowed.Given as goal

abbrev pub invariant-loop-other : goal.invariant-loop-other
invariant-loop-other l = is_shadowed l.source (drop l.other-index l.names) l.name ≡ is_shadowed l.source l.names l.name
