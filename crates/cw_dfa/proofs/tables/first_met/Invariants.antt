use Rattle.std.proofs.Common.{◌≡◌, drop}
use Rattle.cw_dfa.specs.Tables.{first_met}
use Rattle.cw_dfa.proofs.tables.first_met.Given as goal

abbrev pub invariant-loop-i : goal.invariant-loop-i
invariant-loop-i l = first_met (drop l.i l.last) l.i l.set ≡ first_met l.last 0 l.set
