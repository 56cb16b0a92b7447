use Rattle.cw_source.proofs.Runnable.{runnable}
use Rattle.cw_source.proofs.laws.programs_are_runnable.Goals as goal

pub returns : goal.returns
returns c = record { runnable = runnable }
