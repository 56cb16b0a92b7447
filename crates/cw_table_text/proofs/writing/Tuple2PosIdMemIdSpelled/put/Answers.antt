-- The pieces of a line, one after another.
use Rattle.cw_table_text.proofs.Pieces.{two_fields}
use Rattle.cw_table_text.proofs.writing.Tuple2PosIdMemIdSpelled.put.Goals as goal

pub returns-clause-text : goal.returns-clause-text
returns-clause-text g c = two_fields _ _ _ _ _ _ _ _ c.put_name.ensures.text c.put_field.ensures.text c.put_field-2.ensures.text
    c.put.ensures.text
