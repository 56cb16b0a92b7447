use Rattle.std.proofs.Common.{◌≡◌, ◌++◌}
use Rattle.cw_sample.specs.Samples.{prototypes}
use Rattle.cw_sample.proofs.sample.put_prototypes.Given as goal

abbrev pub invariant-loop-i : goal.invariant-loop-i
invariant-loop-i l = l.text.items ≡ l.initial.text.items ++ prototypes l.i
