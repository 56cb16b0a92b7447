use Rattle.cw_agree.proofs.Agreement.{runs_agree, some_run_agrees}
use Rattle.cw_agree.proofs.laws.runs_agree.Goals as goal

pub returns : goal.returns
returns c = record { agree = runs_agree; some = some_run_agrees }
