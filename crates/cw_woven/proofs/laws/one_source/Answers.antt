use Rattle.cw_woven.proofs.OneReading.{read_as_one}
use Rattle.cw_woven.proofs.laws.one_source.Goals as goal

pub returns : goal.returns
returns c = read_as_one
