use Rattle.cw_lex.proofs.Ordered.{tokens_in_order, tokens_of_their_kind}
use Rattle.cw_lex.proofs.Valued as valued
use Rattle.cw_lex.proofs.laws.laws_of_tokens.Goals as goal

pub returns : goal.returns
returns c = record { in_order = tokens_in_order; of_their_kind = tokens_of_their_kind; keywords = valued.keywords_are; numbers = λ text e. valued.number_is_small text (valued.numbers text e) }
