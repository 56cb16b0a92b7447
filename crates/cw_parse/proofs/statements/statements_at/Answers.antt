use Rattle.cw_grammar.specs.Expressions.{nesting_limit}
use Rattle.cw_parse.proofs.statements.statements_at.Goals as goal

pub returns : goal.returns
unfolding nesting_limit
returns c = c.listed_at.ensures
