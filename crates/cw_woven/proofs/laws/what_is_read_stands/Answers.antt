use Rattle.cw_woven.proofs.Standing.{stands}
use Rattle.cw_woven.proofs.laws.what_is_read_stands.Goals as goal

pub returns : goal.returns
returns c = stands
