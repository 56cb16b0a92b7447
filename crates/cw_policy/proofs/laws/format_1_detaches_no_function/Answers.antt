use Rattle.cw_policy.proofs.Formats.{detaches_none}
use Rattle.cw_policy.proofs.laws.format_1_detaches_no_function.Goals as goal

pub returns : goal.returns
returns c = detaches_none
