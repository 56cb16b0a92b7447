use Rattle.cw_audit_text.proofs.Puts.{at_put}
use Rattle.cw_audit_text.proofs.printing.put_row.Goals as goal

pub returns-clause-text : goal.returns-clause-text
returns-clause-text g c =
    at_put c.args.row.0.0 c.args.row.1.0 c.args.row.2 _ _ _ _ _ _ _ _ c.put.ensures.text (rw c.from.ensures at c.put_number.ensures.text) c.put-2.ensures.text
    (rw c.from-2.ensures at c.put_number-2.ensures.text) c.put-3.ensures.text (rw c.from-3.ensures at c.put_number-3.ensures.text) c.put-4.ensures.text
