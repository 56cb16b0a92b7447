use Rattle.std.proofs.Common.{◌≡◌, ◌+◌, ◌≤◌, [], length, drop}
use Rattle.cw_scope.specs.Rules.{different}
use Rattle.cw_scope.proofs.Seen.{texts}
use Rattle.cw_scope.proofs.rules.are_more.Given as goal

abbrev pub invariant-loop-name : goal.invariant-loop-name
invariant-loop-name l = (length l.seen.keys ≤ l.most) × (length l.seen.keys + length (different l.source (texts l.seen.keys) (drop l.name-index l.names)) ≡ length (different l.source [] l.names))
