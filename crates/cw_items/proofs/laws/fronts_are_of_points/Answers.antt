use Rattle.cw_items.proofs.Fronts.{fronts_are_of_points}
use Rattle.cw_items.proofs.laws.fronts_are_of_points.Goals as goal

pub returns : goal.returns
returns c = record { fronts = fronts_are_of_points }
