use Rattle.std.proofs.Common.{◌≡◌, ◌∙◌, refl, ap, drop}
use Rattle.std.specs.Char.{is_ascii_digit}
use Rattle.std.specs.List.{take_while}
use Rattle.std.proofs.Common.{arith, length}
use Rattle.std.proofs.lemmas.Fmt.{decimal_nonempty}
use Rattle.cw_core.proofs.Decimals.{AllDigits-take_while, same_decimal}
use Rattle.cw_core.proofs.decimal.read_dec.Goals as goal

pub decimal_value-requires : goal.decimal_value-requires
decimal_value-requires c = record { digits = rw c.leading_digits-digits.ensures.run (AllDigits-take_while c.text_from.result.now) }

pub returns-clause-found : goal.returns-clause-found
returns-clause-found c = λ number h.
    let run : c.leading_digits-digits.result.now ≡ take_while is_ascii_digit (drop c.args.at c.args.text.now) = c.leading_digits-digits.ensures.run ∙ ap (take_while is_ascii_digit) c.text_from.ensures.rest in
    let same = same_decimal c.args.text.now c.args.at c.in_ok-number.number number c.leading_digits-digits.result.now run c.in_ok-number.ensures.some.0 c.in_ok-number.ensures.some.1 h in
    rw (same.0, same.1) refl

pub returns-clause-within : goal.returns-clause-within
returns-clause-within c =
    let some = decimal_nonempty c.in_ok-number.number c.in_ok-number.ensures.some.1 in
    let e = ap length c.in_ok-number.ensures.some.0 in
    let p = c.leading_digits-digits.ensures.within in
    (omega (arith, some, e), omega (arith, p, c.text_from.ensures.length))
