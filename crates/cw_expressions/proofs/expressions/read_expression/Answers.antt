use Rattle.cw_expressions.proofs.Whole.{is_found, is_only, is_deep, is_syntax}
use Rattle.cw_expressions.proofs.expressions.read_expression.Goals as goal

pub returns-clause-found : goal.returns-clause-found
returns-clause-found c = is_found c.args.tokens.now c.expression_next.result c.expression_next.ensures

pub returns-clause-only : goal.returns-clause-only
returns-clause-only c = is_only c.args.tokens.now c.expression_next.result c.expression_next.ensures

pub returns-clause-deep : goal.returns-clause-deep
returns-clause-deep c = is_deep c.args.tokens.now c.expression_next.result c.expression_next.ensures

pub returns-clause-syntax : goal.returns-clause-syntax
returns-clause-syntax c = is_syntax c.args.tokens.now c.expression_next.result c.expression_next.ensures
