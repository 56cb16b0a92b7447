use Rattle.std.proofs.Common.{◌≡◌, ◌++◌, map, drop}
use Rattle.cw_scope.specs.Names.{labels_of}
use Rattle.cw_scope.specs.Held.{nested_of}
use Rattle.cw_scope.proofs.names.put_labels.Given as goal

abbrev pub invariant-loop-nested : goal.invariant-loop-nested
invariant-loop-nested l = l.out.items ++ labels_of (map nested_of (drop l.nested-index l.statements)) ≡ l.initial.out.items ++ labels_of (map nested_of l.statements)
