use Rattle.std.proofs.Common.{◌≡◌, take}
use Rattle.cw_least_strategy.proofs.certificate.copied_backs.Given as goal

abbrev pub invariant-loop-back : goal.invariant-loop-back
invariant-loop-back l = l.copy.items ≡ take l.back-index l.backs
