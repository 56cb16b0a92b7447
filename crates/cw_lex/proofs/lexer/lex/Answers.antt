use Rattle.cw_lex.proofs.Made.{all_as_they_are}
use Rattle.cw_lex.proofs.lexer.lex.Goals as goal

pub returns-clause-tokens : goal.returns-clause-tokens
returns-clause-tokens c = all_as_they_are c.args.source.now c.lex_as.result c.lex_as.ensures.tokens
