use Rattle.std.proofs.Common.{take}
use Rattle.cw_echeck.proofs.Members.{Among}
use Rattle.cw_echeck.proofs.sets.exits_of.Given as goal

abbrev pub invariant-loop-back : goal.invariant-loop-back
invariant-loop-back l = Among l.exits (take l.back-index l.backs)
