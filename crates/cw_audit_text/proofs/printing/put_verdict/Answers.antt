use Rattle.cw_audit_text.proofs.Puts.{meets_put, violates_put}
use Rattle.cw_audit_text.proofs.printing.put_verdict.Goals as goal

pub returns-in-None-clause-text : goal.returns-in-None-clause-text
returns-in-None-clause-text g c = rw c.in-None.is (meets_put c.args.writer.now.text _ c.put.ensures.text)

pub returns-in-Some-clause-text : goal.returns-in-Some-clause-text
returns-in-Some-clause-text g c =
    rw c.in-Some.is
    (violates_put c.in-Some.distance c.args.writer.now.text _ _ _ c.put-in-Some.ensures.text (rw c.from.ensures at c.put_number.ensures.text) c.put-in-Some-2.ensures.text)
