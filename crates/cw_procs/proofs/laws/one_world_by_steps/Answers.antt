use Rattle.cw_procs.proofs.OneWorld.{one_world}
use Rattle.cw_procs.proofs.laws.one_world_by_steps.Goals as goal

pub returns : goal.returns
returns c = record { one = one_world }
