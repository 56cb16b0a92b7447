use Rattle.std.proofs.Common.{arith}
use Rattle.cw_lex.proofs.OneDigit.{one_digit_is_number}
use Rattle.cw_lex.proofs.numbers.is_number.Goals as goal

pub returns-in-48-to-57 : goal.returns-in-48-to-57
returns-in-48-to-57 c = one_digit_is_number c.args.text.now (omega arith) (omega arith) (omega arith)
