use Rattle.cw_woven.proofs.Cutting.{closed, unclosed, has_parts}
use Rattle.cw_woven.proofs.laws.cut_leaves_what_is_outside.Goals as goal

pub returns-clause-closed : goal.returns-clause-closed
returns-clause-closed c = closed

pub returns-clause-unclosed : goal.returns-clause-unclosed
returns-clause-unclosed c = unclosed

pub returns-clause-each : goal.returns-clause-each
returns-clause-each c = has_parts
