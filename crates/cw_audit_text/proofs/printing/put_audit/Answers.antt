use Rattle.cw_audit_table.specs.Tables.{audit_of}
use Rattle.cw_audit_text.proofs.Puts.{audit_put}
use Rattle.cw_audit_text.proofs.printing.put_audit.Goals as goal

pub returns-clause-text : goal.returns-clause-text
returns-clause-text g c =
    audit_put (audit_of c.args.table.now) _ _ _ _ _ _ _ _ c.put.ensures.text (rw c.from.ensures at c.put_number.ensures.text) c.put-2.ensures.text c.put_verdict.ensures.text
    (rw c.deref.ensures.value at c.put_moves.ensures.text) (rw c.deref-2.ensures.value at c.put_groups.ensures.text) c.put-3.ensures.text
