use Rattle.std.proofs.Common.{arith}
use Rattle.cw_lex.specs.declared.tokens.TokenKind.TheVariants.{Name}
use Rattle.cw_grammar.proofs.Placed.{placed}
use Rattle.cw_grammar.proofs.spelling.lexemes.Goals as goal

pub lexeme_at-requires-clause-order : goal.lexeme_at-requires-clause-order
lexeme_at-requires-clause-order c = (placed c.args.source.now c.args.tokens.now c.requires.tokens c.tokens.token-index (record { kind = Name; from = 0; to = 0 }) c.tokens-test.true).order

pub lexeme_at-requires-clause-within : goal.lexeme_at-requires-clause-within
lexeme_at-requires-clause-within c = (placed c.args.source.now c.args.tokens.now c.requires.tokens c.tokens.token-index (record { kind = Name; from = 0; to = 0 }) c.tokens-test.true).within

pub lexeme_at-requires-clause-small : goal.lexeme_at-requires-clause-small
lexeme_at-requires-clause-small c = (placed c.args.source.now c.args.tokens.now c.requires.tokens c.tokens.token-index (record { kind = Name; from = 0; to = 0 }) c.tokens-test.true).small

pub push_reserved-requires : goal.push_reserved-requires
push_reserved-requires c = omega (arith, c.tokens.invariant.many, c.tokens.invariant.room, c.tokens-test.true)
