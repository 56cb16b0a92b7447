use Rattle.cw_worlds.proofs.Meeting.{processes_are_runs}
use Rattle.cw_worlds.proofs.laws.processes_are_runs.Goals as goal

pub returns : goal.returns
returns c = record { runs = processes_are_runs }
