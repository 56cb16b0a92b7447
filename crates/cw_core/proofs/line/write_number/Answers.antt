use Rattle.std.proofs.Common.{◌≡◌, ◌+◌, arith, sym, ap, ℕ}
use Rattle.cw_core.proofs.Digits.{number_put}
use Rattle.cw_core.proofs.line.write_number.Goals as goal

pub write_digits-requires : goal.write_digits-requires
write_digits-requires c =
    let long = c.decimal_length.ensures.length in
    let few = c.decimal_length.ensures.few in
    (omega (arith, long), omega (arith, few, c.requires.room))

pub returns-clause-text : goal.returns-clause-text
returns-clause-text c =
    let long = c.decimal_length.ensures.length in
    let start = c.write_digits.ensures.start in
    let same : c.write_digits.result ≡ c.args.from = omega (arith, long, start) in
    let sum = ap (λ (k : ℕ). c.args.from + k) (sym long) in
    number_put c.args.text.now c.write_digits.new.buf c.write_digits.result c.args.from _ c.args.n same sum c.write_digits.ensures.written c.write_digits.ensures.before
