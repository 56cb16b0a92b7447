use Rattle.cw_core.proofs.Digits.{mask_digits}
use Rattle.cw_core.proofs.ranges.mask_length.Goals as goal

pub returns : goal.returns
returns c = record { length = mask_digits c.args.set.now c.digit_count.result c.digit_count.ensures.digits }
