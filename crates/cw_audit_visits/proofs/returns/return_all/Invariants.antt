use Rattle.cw_audit_visits.specs.Searching.{IsGoneOn, Tells}
use Rattle.cw_audit_visits.proofs.returns.return_all.Given as goal

abbrev pub invariant-loop-row_key : goal.invariant-loop-row_key
invariant-loop-row_key l = record {
  tells : Tells l.fn.search l.search l.changed;
  goes_on : IsGoneOn l.game l.fn.search l.search;
}
