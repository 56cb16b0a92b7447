use Rattle.std.proofs.Common.{refl}
use Rattle.cw_core.proofs.Digits.{all_digits, no_digits}
use Rattle.cw_core.proofs.state_set.StateSet.digit_count.Goals as goal

pub returns-then-bits-eq0-clause-digits : goal.returns-then-bits-eq0-clause-digits
returns-then-bits-eq0-clause-digits c = no_digits c.args.self.now _ c.bit_count-bits.ensures.above c.if-bits-eq0.true

pub returns-clause-digits : goal.returns-clause-digits
returns-clause-digits c = all_digits c.args.self.now _ _ c.bit_count-bits.ensures.above c.bit_count-bits.ensures.first c.if-bits-eq0.false refl
