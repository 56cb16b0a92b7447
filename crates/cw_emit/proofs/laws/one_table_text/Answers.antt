use Rattle.cw_emit.proofs.Cutting.{table_text_is_one}
use Rattle.cw_emit.proofs.laws.one_table_text.Goals as goal

pub returns : goal.returns
returns c = table_text_is_one
