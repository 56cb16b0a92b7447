use Rattle.cw_woven.proofs.Cutting.{read_is_cut}
use Rattle.cw_woven.proofs.laws.what_is_read_is_cut.Goals as goal

pub returns : goal.returns
returns c = record { cut = read_is_cut }
