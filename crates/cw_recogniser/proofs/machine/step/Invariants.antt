use Rattle.std.proofs.Common.{◌≡◌, reverse, vec_len}
use Rattle.cw_recogniser.specs.Machine.{feed}
use Rattle.cw_recogniser.proofs.machine.step.Given as goal

abbrev pub invariant-loop-symbol : goal.invariant-loop-symbol
invariant-loop-symbol l = feed (reverse l.fn.stack.items) l.kind ≡ feed (reverse l.stack.items) l.kind

abbrev pub decreases-loop-symbol : goal.decreases-loop-symbol
decreases-loop-symbol l = vec_len l.stack
