-- The pieces of a line, one after another.
use Rattle.cw_table_text.proofs.Pieces.{four_fields}
use Rattle.cw_table_text.proofs.writing.OpenRowSpelled.put.Goals as goal

pub returns-clause-text : goal.returns-clause-text
returns-clause-text g c = four_fields _ _ _ _ _ _ _ _ _ _ _ _ c.put_name.ensures.text c.put_field.ensures.text c.put_field-2.ensures.text c.put_field-3.ensures.text c.put_field-4.ensures.text
    c.put.ensures.text
