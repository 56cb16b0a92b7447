use Rattle.std.proofs.Common.{◌≡◌, ◌+◌, ◌-◌, ◌∷◌, false, suc, arith, ap, length, inl, inr, ◌∙◌, sym}
use Rattle.cw_core.specs.Ranges.{Run}
use Rattle.cw_core.specs.StateSet.{has}
use Rattle.cw_core.proofs.Runs.{runs_from, runs_without, runs_first, ranges_whole, runs_past}
use Rattle.cw_core.proofs.Sets.{IsBelow_from_lt}
use Rattle.cw_core.proofs.RunTexts.{continued-none, continued-start, continued-more, continued_is_longer, some_text}
use Rattle.cw_core.proofs.line.Line.put_runs.Goals as goal

pub numbers-init : goal.numbers-init
numbers-init c = rw c.requires.empty (record {
  text = continued-start (runs_from c.args.set.now 0 1025) ∙ ranges_whole c.args.set.now c.fact_members_are_below_1024.ensures.below;
  small = omega arith;
})

pub numbers-preserved-then-contains : goal.numbers-preserved-then-contains
numbers-preserved-then-contains c =
    let at = c.numbers.at in
    let greatest = c.greatest_of_run-greatest.result in
    let within = c.greatest_of_run-greatest.ensures.within in
    let run : Run = record { least = at; greatest = greatest } in
    let first : runs_from c.args.set.now at (1025 - at) ≡ run ∷ runs_from c.args.set.now (greatest + 2) (1025 - (greatest + 2)) =
    runs_first (greatest - at) c.args.set.now at greatest (1025 - (greatest + 2)) (1025 - at) (omega (arith, within.0, within.1)) (omega (arith, within.0)) c.greatest_of_run-greatest.ensures.members c.greatest_of_run-greatest.ensures.end in
    rw c.put_run.ensures.text (record {
      text = sym (continued-more c.numbers.self run (runs_from c.args.set.now (greatest + 2) (1025 - (greatest + 2))) (some_text run within.0 within.1)) ∙ rw first at c.numbers.invariant.text;
      small = omega (arith, within.1);
    })

pub numbers-preserved : goal.numbers-preserved
numbers-preserved c =
    let at = c.numbers.at in
    let e : 1025 - at ≡ suc (1025 - (at + 1)) = omega (arith, c.numbers-test.true, c.bit_count-bound.ensures.within) in
    let out : has c.args.set.now at ≡ false = sym c.if-contains.ensures.member in
    let skip : runs_from c.args.set.now at (1025 - at) ≡ runs_from c.args.set.now (at + 1) (1025 - (at + 1)) = rw e (runs_without c.args.set.now at (1025 - (at + 1)) out) in
    record {
      text = rw skip at c.numbers.invariant.text;
      small = omega (arith, c.numbers-test.true, c.bit_count-bound.ensures.within);
    }

pub returns : goal.returns
returns c =
    let below = IsBelow_from_lt c.bit_count-bound.result c.args.set.now c.bit_count-bound.ensures.above in
    let none = runs_past c.bit_count-bound.result c.args.set.now c.numbers.at (1025 - c.numbers.at) below c.numbers-test.false in
    record { text = inl (sym (continued-none c.numbers.self) ∙ (rw none at c.numbers.invariant.text)) }

pub returns-then-bytes-ge-LONGEST_MASK : goal.returns-then-bytes-ge-LONGEST_MASK
returns-then-bytes-ge-LONGEST_MASK c =
    let long = continued_is_longer c.numbers.self (runs_from c.args.set.now c.numbers.at (1025 - c.numbers.at)) in
    record { text = inr (omega (arith, c.if-bytes-ge-LONGEST_MASK.true, ap length c.bytes.ensures.bytes), rw c.numbers.invariant.text at long) }
