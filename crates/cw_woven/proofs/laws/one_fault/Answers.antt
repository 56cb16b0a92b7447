use Rattle.cw_woven.proofs.OneFault.{one_fault}
use Rattle.cw_woven.proofs.laws.one_fault.Goals as goal

pub returns : goal.returns
returns c = record { fault = λ policy text f g valid ne nf h k. one_fault policy valid text f g ne nf h k }
