use Rattle.cw_consequences.proofs.Formed as formed
use Rattle.cw_consequences.proofs.laws.procs_is_weave.Goals as goal

pub returns : goal.returns
returns c = formed.procs_is_weave
