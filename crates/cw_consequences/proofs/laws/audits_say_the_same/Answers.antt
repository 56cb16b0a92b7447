use Rattle.cw_consequences.proofs.Tried.{differ_in_moves, say_same}
use Rattle.cw_consequences.proofs.laws.audits_say_the_same.Goals as goal

pub returns-clause-same : goal.returns-clause-same
returns-clause-same c = say_same

pub returns-clause-moves : goal.returns-clause-moves
returns-clause-moves c = differ_in_moves
