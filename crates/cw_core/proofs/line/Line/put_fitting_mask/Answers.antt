use Rattle.std.proofs.Common.{arith, length-append}
use Rattle.std.specs.Prelude.{codes}
use Rattle.cw_core.proofs.Digits.{mask_digits, mask_put}
use Rattle.cw_core.proofs.Texts.{length-hexadecimal}
use Rattle.cw_core.proofs.line.Line.put_fitting_mask.Goals as goal

pub put_text-requires : goal.put_text-requires
put_text-requires c =
    let long = length-hexadecimal c.args.set.now in
    record { room = omega (arith, long, c.requires.room) }

pub put_odd_digit-requires : goal.put_odd_digit-requires
put_odd_digit-requires c =
    let long = length-append c.args.self.now (codes "0x") in
    let exact = mask_digits c.args.set.now c.digit_count-count.result c.digit_count-count.ensures.digits in
    rw c.put_text.ensures.text (record { room = omega (arith, long, exact, c.requires.room); within = c.digit_count-count.ensures.within })

pub returns : goal.returns
returns c = record {
  text = mask_put c.args.self.now _ _ _ c.args.set.now c.digit_count-count.result c.put_text.ensures.text c.put_odd_digit.ensures.text c.put_pairs.ensures.text c.digit_count-count.ensures.digits;
}
