use Rattle.cw_model.proofs.Moving.{stops_after_refusal}
use Rattle.cw_model.proofs.laws.stops_after_refusal.Goals as goal

pub returns : goal.returns
returns c = record { refused = stops_after_refusal }
