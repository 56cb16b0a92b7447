use Rattle.std.proofs.Common.{false}
use Rattle.cw_audit_visits.specs.Searching.{AreEndsNoted, IsGoneOn, Tells}
use Rattle.cw_audit_visits.proofs.sweep.return_each.Given as goal

abbrev pub invariant-loop-row_key : goal.invariant-loop-row_key
invariant-loop-row_key l = record {
  tells : Tells l.fn.search l.search false;
  goes_on : IsGoneOn l.game l.fn.search l.search;
  noted : AreEndsNoted l.game l.fn.search l.call l.numbers l.row_key;
}
