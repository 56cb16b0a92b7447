use Rattle.cw_agree.proofs.Untried.{plain_runs_try_nothing}
use Rattle.cw_agree.proofs.laws.plain_runs_try_nothing.Goals as goal

pub returns : goal.returns
returns c = record { nothing = plain_runs_try_nothing }
