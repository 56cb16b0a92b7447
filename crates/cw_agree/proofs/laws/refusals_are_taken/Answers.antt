use Rattle.cw_agree.proofs.Refusals.{refusals_are_taken}
use Rattle.cw_agree.proofs.laws.refusals_are_taken.Goals as goal

pub returns : goal.returns
returns c = record { taken = refusals_are_taken }
