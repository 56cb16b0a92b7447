use Rattle.cw_worlds.proofs.Missing.{runs_are_processes}
use Rattle.cw_worlds.proofs.laws.runs_are_processes.Goals as goal

pub returns : goal.returns
returns c = record { processes = runs_are_processes }
