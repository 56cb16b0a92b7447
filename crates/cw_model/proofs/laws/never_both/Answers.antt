use Rattle.cw_model.proofs.Beaten.{never_both}
use Rattle.cw_model.proofs.laws.never_both.Goals as goal

pub returns : goal.returns
returns c = record { never = never_both }
