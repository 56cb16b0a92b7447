use Rattle.cw_audit_text.proofs.Puts.{group_put}
use Rattle.cw_audit_text.proofs.printing.put_group.Goals as goal

pub returns-clause-text : goal.returns-clause-text
returns-clause-text g c = group_put c.args.group.now _ _ _ c.put_in.ensures.text (rw c.deref.ensures.value at c.put_rows.ensures.text)
