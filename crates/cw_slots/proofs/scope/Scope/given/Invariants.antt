use Rattle.std.proofs.Common.{◌≡◌, drop}
use Rattle.cw_slots.proofs.Found.{found_in}
use Rattle.cw_slots.proofs.scope.Scope.given.Given as goal

abbrev pub invariant-loop-given : goal.invariant-loop-given
invariant-loop-given l = found_in l.name (drop l.given-index l.self.given.now) ≡ found_in l.name l.self.given.now
