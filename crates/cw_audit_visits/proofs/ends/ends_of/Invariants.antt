use Rattle.cw_audit_visits.specs.Searching.{AreEndsUpTo}
use Rattle.cw_audit_visits.proofs.ends.ends_of.Given as goal

abbrev pub invariant-loop-number : goal.invariant-loop-number
invariant-loop-number l = AreEndsUpTo l.game l.search l.ends l.number
