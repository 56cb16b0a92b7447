use Rattle.std.proofs.Common.{arith}
use Rattle.cw_grammar.proofs.Placed.{token_placed}
use Rattle.cw_grammar.proofs.spelling.LexemeOfToken.of.Goals as goal

pub lexeme_at-requires-clause-small : goal.lexeme_at-requires-clause-small
lexeme_at-requires-clause-small c =
    let some = c.requires.token.some in
    (token_placed c.args.source.now c.args.token (omega arith) c.requires.token.within c.requires.token.alone).small
