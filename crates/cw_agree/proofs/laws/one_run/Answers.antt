use Rattle.cw_agree.proofs.Once.{one_run}
use Rattle.cw_agree.proofs.laws.one_run.Goals as goal

pub returns : goal.returns
returns c = record { one = one_run }
