use Rattle.cw_lemmas.proofs.Digits.{value_step, too_large}
use Rattle.cw_lex.proofs.numbers.value.Goals as goal

pub returns-in_err-number-clause-none : goal.returns-in_err-number-clause-none
returns-in_err-number-clause-none c = rw c.from_residual.ensures
    (too_large c.args.base c.args.digits.now c.loop-digit.digit-index c.loop-digit.number c.requires.base c.loop-digit-test.true c.loop-digit.invariant.so_far c.in_err-number.ensures.none)

pub loop-digit-preserved : goal.loop-digit-preserved
loop-digit-preserved c = record {
  so_far = value_step c.args.base c.args.digits.now c.loop-digit.digit-index c.loop-digit.number c.in_ok-number.number c.loop-digit-test.true c.loop-digit.invariant.so_far
      c.in_ok-number.ensures.some.0;
  small = c.in_ok-number.ensures.some.1;
}
