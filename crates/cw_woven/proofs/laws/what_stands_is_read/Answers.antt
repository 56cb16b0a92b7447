use Rattle.cw_woven.proofs.Again.{reads}
use Rattle.cw_woven.proofs.laws.what_stands_is_read.Goals as goal

pub returns : goal.returns
returns c = reads
