use Rattle.cw_positions.proofs.Origins.{positions_are_of_points}
use Rattle.cw_positions.proofs.Bounding.{points_are_within}
use Rattle.cw_positions.proofs.laws.positions_are_of_points.Goals as goal

pub returns-clause-points : goal.returns-clause-points
returns-clause-points c = positions_are_of_points

pub returns-clause-within : goal.returns-clause-within
returns-clause-within c = points_are_within
