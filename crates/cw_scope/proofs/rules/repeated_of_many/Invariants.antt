use Rattle.std.proofs.Common.{◌≡◌, [], drop}
use Rattle.cw_scope.specs.Rules.{repeated}
use Rattle.cw_scope.proofs.Seen.{texts}
use Rattle.cw_scope.proofs.rules.repeated_of_many.Given as goal

abbrev pub invariant-loop-name : goal.invariant-loop-name
invariant-loop-name l = repeated l.source (texts l.seen.keys) (drop l.name-index l.names) ≡ repeated l.source [] l.names
