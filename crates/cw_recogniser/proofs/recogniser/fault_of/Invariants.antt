use Rattle.std.proofs.Common.{◌≡◌, reverse, take, Some}
use Rattle.cw_recogniser.specs.Machine.{run, start}
use Rattle.cw_recogniser.proofs.recogniser.fault_of.Given as goal

abbrev pub invariant-loop-index : goal.invariant-loop-index
invariant-loop-index l = run start (take l.index l.lexemes) ≡ Some (reverse l.stack.items)
