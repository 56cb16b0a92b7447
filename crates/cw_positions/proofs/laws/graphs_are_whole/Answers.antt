use Rattle.cw_positions.proofs.Programs.{is_whole, main_is_there}
use Rattle.cw_positions.proofs.laws.graphs_are_whole.Goals as goal

pub returns-clause-whole : goal.returns-clause-whole
returns-clause-whole c = is_whole

pub returns-clause-main : goal.returns-clause-main
returns-clause-main c = main_is_there
