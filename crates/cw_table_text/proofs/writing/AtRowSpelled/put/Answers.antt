-- The pieces of a line, one after another.
use Rattle.cw_table_text.proofs.Pieces.{three_fields}
use Rattle.cw_table_text.proofs.writing.AtRowSpelled.put.Goals as goal

pub returns-clause-text : goal.returns-clause-text
returns-clause-text g c = three_fields _ _ _ _ _ _ _ _ _ _ c.put_name.ensures.text c.put_field.ensures.text c.put_field-2.ensures.text c.put_field-3.ensures.text
    c.put.ensures.text
