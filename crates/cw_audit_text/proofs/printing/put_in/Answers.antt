use Rattle.cw_audit_text.proofs.Puts.{in_put}
use Rattle.cw_audit_text.proofs.printing.put_in.Goals as goal

pub returns-clause-text : goal.returns-clause-text
returns-clause-text g c =
    in_put c.args.function c.args.entered.0 c.args.reach _ _ _ _ _ _ _ _ c.put.ensures.text (rw c.from.ensures at c.put_number.ensures.text) c.put-2.ensures.text
    (rw c.from-2.ensures at c.put_number-2.ensures.text) c.put-3.ensures.text (rw c.from-3.ensures at c.put_number-3.ensures.text) c.put-4.ensures.text
