use Rattle.std.proofs.Common.{◌∙◌, arith}
use Rattle.cw_lex.proofs.OneDigit.{one_digit_value}
use Rattle.cw_lex.proofs.numbers.number_value.Goals as goal

pub returns-in-48-to-57 : goal.returns-in-48-to-57
returns-in-48-to-57 c = c.from.ensures ∙ one_digit_value c.args.text.now (omega arith) (omega arith) (omega arith)
