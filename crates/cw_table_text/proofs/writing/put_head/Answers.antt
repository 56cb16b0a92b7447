-- The pieces of a line, one after another.
use Rattle.std.specs.Prelude.{codes}
use Rattle.cw_table_text.specs.TablesText.{table_text}
use Rattle.cw_table_text.proofs.Pieces.{three_fields}
use Rattle.cw_table_text.proofs.writing.put_head.Goals as goal

pub returns-clause-text : goal.returns-clause-text
unfolding table_text
returns-clause-text g c =
    three_fields _ _ _ _ _ _ (codes "CW_TABLE") _ _ _ c.put_name.ensures.text (rw c.from.ensures at c.put_number.ensures.text)
    (rw (c.from-2.ensures, c.states.ensures) at c.put_number-2.ensures.text) (rw (c.from-3.ensures, c.start.ensures) at c.put_number-3.ensures.text) c.put.ensures.text
