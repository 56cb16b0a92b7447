use Rattle.std.proofs.Common.{inr}
use Rattle.cw_lex.proofs.Standing.{is_marker_fault}
use Rattle.cw_lex.proofs.lexer.lex_as.Goals as goal

pub returns-in-Some-clause-fault : goal.returns-in-Some-clause-fault
returns-in-Some-clause-fault g c = inr (is_marker_fault c.args.source.now c.in-Some.at c.in-Some.ensures.found)
