use Rattle.cw_agree.proofs.Progress.{some_run}
use Rattle.cw_agree.proofs.laws.some_run.Goals as goal

pub returns : goal.returns
returns c = record { some = some_run }
