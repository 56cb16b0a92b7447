use Rattle.cw_woven.proofs.OneReading.{one_table_text}
use Rattle.cw_woven.proofs.laws.one_table_text.Goals as goal

pub returns : goal.returns
returns c = one_table_text
