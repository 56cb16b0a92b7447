use Rattle.std.proofs.Common.{false}
use Rattle.cw_audit_visits.specs.Searching.{AreBegunUpTo, IsGoneOn, Tells}
use Rattle.cw_audit_visits.proofs.sweep.begin_all.Given as goal

abbrev pub invariant-loop-number : goal.invariant-loop-number
invariant-loop-number l = record {
  tells : Tells l.fn.search l.search false;
  goes_on : IsGoneOn l.game l.fn.search l.search;
  begun : AreBegunUpTo l.game l.fn.search l.number;
}
