use Rattle.std.proofs.Common.{arith, rules}
use Rattle.cw_grammar.proofs.Spelled.{keyword_read}
use Rattle.std.specs.Prelude.{codes}
use Rattle.cw_grammar.proofs.spelling.keyword.Goals as goal

pub returns-in-extern : goal.returns-in-extern
returns-in-extern c = keyword_read c.args.text.now (codes "extern") (omega arith) (search rules)

pub returns-in-static : goal.returns-in-static
returns-in-static c = keyword_read c.args.text.now (codes "static") (omega arith) (search rules)

pub returns-in-sizeof : goal.returns-in-sizeof
returns-in-sizeof c = keyword_read c.args.text.now (codes "sizeof") (omega arith) (search rules)

pub returns-in-return : goal.returns-in-return
returns-in-return c = keyword_read c.args.text.now (codes "return") (omega arith) (search rules)

pub returns-in-unsigned : goal.returns-in-unsigned
returns-in-unsigned c = keyword_read c.args.text.now (codes "unsigned") (omega arith) (search rules)

pub returns-in-continue : goal.returns-in-continue
returns-in-continue c = keyword_read c.args.text.now (codes "continue") (omega arith) (search rules)
