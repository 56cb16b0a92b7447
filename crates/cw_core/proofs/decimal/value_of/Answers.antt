use Rattle.std.proofs.Common.{arith}
use Rattle.cw_lemmas.proofs.Digits.{value_step, too_large}
use Rattle.cw_core.proofs.Decimals.{AllDigits-at}
use Rattle.cw_core.proofs.decimal.value_of.Goals as goal

pub with_digit-requires : goal.with_digit-requires
with_digit-requires c = record { digit = AllDigits-at 10 c.args.digits.now c.loop-digit.digit-index c.requires.digits c.loop-digit-test.true }

pub returns-in_err-number-clause-none : goal.returns-in_err-number-clause-none
returns-in_err-number-clause-none c = rw c.from_residual.ensures (too_large 10 c.args.digits.now c.loop-digit.digit-index c.loop-digit.number (omega arith) c.loop-digit-test.true c.loop-digit.invariant.so_far c.in_err-number.ensures.none)

pub loop-digit-preserved : goal.loop-digit-preserved
loop-digit-preserved c = record {
  so_far = value_step 10 c.args.digits.now c.loop-digit.digit-index c.loop-digit.number c.in_ok-number.number c.loop-digit-test.true c.loop-digit.invariant.so_far c.in_ok-number.ensures.some.0;
  small = c.in_ok-number.ensures.some.1;
}
