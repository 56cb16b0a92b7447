use Rattle.std.proofs.Common.{arith, ◌∙◌, ◌-◌, ◌+◌, ap, length, take}
use Rattle.cw_core.proofs.Digits.{PAIRS_at, kept, take_two, pair_put, take_limb, limb_kept, limb_put, length-lowest_glyphs, none_left}
use Rattle.cw_core.proofs.line.write_pairs.Goals as goal

pub pairs-preserved : goal.pairs-preserved
pairs-preserved c =
    let some = c.pairs-test.true in
    let index = c.pairs.left - 1 in
    let glyphs = PAIRS_at c.from-pair.result (omega (arith, c.from-pair.ensures, c.byte.ensures.value)) in
    let sum = c.pairs.invariant.end in
    let room = c.pairs.invariant.room in
    record {
      end = omega (arith, sum, some);
      small = omega (arith, c.pairs.invariant.small);
      room = kept c.pairs.text c.pairs.at (c.pairs.at + 1) _ _ _ room;
      text = pair_put (take c.pairs.at c.pairs.text) _ _ c.args.set.now c.pairs.left index c.from-pair.result _ _ (omega (arith, some)) (c.from-pair.ensures ∙ c.byte.ensures.value) glyphs.0 glyphs.1
          (take_two c.pairs.text c.pairs.at _ _ (omega (arith, sum, room, some))) c.pairs.invariant.text;
    }

pub limbs-init : goal.limbs-init
limbs-init c =
    let so_far = c.pairs.invariant in
    record {
      end = so_far.end;
      whole = omega (arith, c.pairs-test.false);
      small = so_far.small;
      room = so_far.room;
      text = so_far.text;
    }

pub limbs-preserved : goal.limbs-preserved
limbs-preserved c =
    let some = c.limbs-test.true in
    let index = c.limbs.left - 8 in
    let sum = c.limbs.invariant.end in
    let room = c.limbs.invariant.room in
    let even = c.limbs.invariant.whole in
    let digits = c.write_limb.ensures.digits in
    let long = ap length digits ∙ length-lowest_glyphs 16 c.limb.result in
    record {
      end = omega (arith, sum, some, even);
      whole = omega (arith, some, even);
      small = omega (arith, c.limbs.invariant.small);
      room = limb_kept c.limbs.text c.write_limb.new.text c.limbs.at _ _ long (omega arith) (omega (arith, sum, some, even, room)) room;
      text = limb_put (take c.limbs.at c.limbs.text) _ _ _ c.args.set.now c.limbs.left index c.limb.result (omega (arith, some, even)) (omega (arith, some, even)) c.limb.ensures.value digits
          (take_limb c.limbs.text _ _ c.limbs.at (omega (arith, sum, room)) long) c.limbs.invariant.text;
    }

pub returns-clause-text : goal.returns-clause-text
returns-clause-text c = none_left _ _ c.args.set.now c.limbs.left (omega (arith, c.limbs-test.false)) c.limbs.invariant.text

pub returns-clause-end : goal.returns-clause-end
returns-clause-end c = omega (arith, c.limbs-test.false, c.limbs.invariant.end)
