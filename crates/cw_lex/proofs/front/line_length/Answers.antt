use Rattle.std.proofs.Common.{sym}
use Rattle.cw_lex.proofs.LineEnds.{line_to, line_whole}
use Rattle.cw_lex.proofs.front.line_length.Goals as goal

pub returns-in-None-clause-value : goal.returns-in-None-clause-value
returns-in-None-clause-value c = sym (line_whole c.args.bytes.now c.in-None.ensures)

pub returns-in-Some-clause-value : goal.returns-in-Some-clause-value
returns-in-Some-clause-value c = sym (line_to c.args.bytes.now c.in-Some.at c.in-Some.ensures)
