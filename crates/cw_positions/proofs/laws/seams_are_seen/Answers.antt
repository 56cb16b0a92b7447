use Rattle.cw_positions.proofs.Seen.{seams_are_seen, stages_are_seen}
use Rattle.cw_positions.proofs.laws.seams_are_seen.Goals as goal

pub returns-clause-seams : goal.returns-clause-seams
returns-clause-seams c = seams_are_seen

pub returns-clause-stages : goal.returns-clause-stages
returns-clause-stages c = stages_are_seen
