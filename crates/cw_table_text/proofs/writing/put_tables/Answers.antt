-- The pieces of a text, one after another.
use Rattle.cw_rights.specs.Policies.{policy_of}
use Rattle.cw_table_text.proofs.Pieces.{whole_text}
use Rattle.cw_table_text.proofs.writing.put_tables.Goals as goal

pub returns-clause-text : goal.returns-clause-text
returns-clause-text g c =
    whole_text (policy_of c.args.policy.now) c.args.cert.now _ _ _ _ _ _ _ _ _ _ _ _ _ c.put.ensures.text c.put_limits.ensures.text
    c.put_head.ensures.text
    (rw c.mems.ensures at c.put_memories.ensures.text)
    (rw c.live.ensures at c.put_rows.ensures.text)
    (rw c.tries.ensures at c.put_rows-2.ensures.text)
    (rw c.ats.ensures at c.put_rows-3.ensures.text)
    (rw c.opened.ensures at c.put_rows-4.ensures.text)
    (rw c.closed.ensures at c.put_rows-5.ensures.text)
    (rw c.into_rows.ensures at c.put_rows-6.ensures.text)
    (rw c.back_rows.ensures at c.put_rows-7.ensures.text)
    c.put-2.ensures.text
