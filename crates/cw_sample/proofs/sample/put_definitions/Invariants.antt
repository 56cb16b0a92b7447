use Rattle.std.proofs.Common.{◌≡◌, ◌++◌}
use Rattle.cw_sample.specs.Samples.{definitions}
use Rattle.cw_sample.proofs.sample.put_definitions.Given as goal

abbrev pub invariant-loop-i : goal.invariant-loop-i
invariant-loop-i l = l.text.items ≡ l.initial.text.items ++ definitions l.n l.i
