use Rattle.std.proofs.Common.{arith, ◌∙◌, ◌-◌, ◌+◌, sym, take, take_all}
use Rattle.cw_core.proofs.Digits.{PAIRS_at, as_long, take_two, pair_put, none_left}
use Rattle.cw_core.proofs.line.write_limb.Goals as goal

pub pairs-preserved : goal.pairs-preserved
pairs-preserved c =
    let some = c.pairs-test.true in
    let index = c.pairs.left - 1 in
    let glyphs = PAIRS_at c.from-pair.result (omega (arith, c.from-pair.ensures, c.byte_of.ensures.value)) in
    let sum = c.pairs.invariant.end in
    let room = c.pairs.invariant.room in
    record {
      end = omega (arith, sum, some);
      room = as_long c.pairs.text c.pairs.at (c.pairs.at + 1) _ _ 16 room;
      text = pair_put (take c.pairs.at c.pairs.text) _ _ c.args.limb c.pairs.left index c.from-pair.result _ _ (omega (arith, some)) (c.from-pair.ensures ∙ c.byte_of.ensures.value) glyphs.0 glyphs.1
          (take_two c.pairs.text c.pairs.at _ _ (omega (arith, sum, room, some))) c.pairs.invariant.text;
    }

pub returns : goal.returns
returns c =
    let none = c.pairs-test.false in
    let all = none_left _ _ c.args.limb c.pairs.left (omega (arith, none)) c.pairs.invariant.text in
    record { digits = sym (take_all c.pairs.at c.pairs.text (omega (arith, none, c.pairs.invariant.end, c.pairs.invariant.room))) ∙ all }
