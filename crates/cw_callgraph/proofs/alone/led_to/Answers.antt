use Rattle.std.proofs.Common.{◌≡◌, ◌<◌, ◌≤◌, length, get_or, rules, ap, ◌∙◌, arith}
use Rattle.std.proofs.lemmas.List.{get_or_default}
use Rattle.cw_callgraph.specs.Finding.{spelled_in, with_all}
use Rattle.cw_callgraph.proofs.Kept.{below_at, found_below}
use Rattle.cw_callgraph.proofs.Walked.{begun, goes_on, all_walked, few}
use Rattle.cw_callgraph.proofs.alone.led_to.Goals as goal

pub walk-init : goal.walk-init
walk-init c =
    let next = spelled_in c.args.scene.now c.args.functions.now in
    let found = c.in_ok-find_called.ensures in
    record {
      walked = begun next c.args.function c.find_called.new.found.numbers.items (found.numbers ∙ ap (λ l. with_all l (next c.args.function)) c.in_ok-found.ensures.0);
      sound = found.sound;
      wide = found.wide ∙ c.in_ok-found.ensures.2;
    }

pub find_called-requires-in-walk-clause-within : goal.find_called-requires-in-walk-clause-within
find_called-requires-in-walk-clause-within c =
    let found = c.walk.found in
    let lt : c.walk.at < length found.numbers.items = search rules in
    let below = below_at (length found.flags.items) found.numbers.items c.walk.at c.index-next.result.now (found_below found c.walk.invariant.sound) lt c.index-next.ensures in
    omega (arith, below, c.walk.invariant.wide)

pub walk-smaller : goal.walk-smaller
walk-smaller c =
    let lt : c.walk.at < length c.walk.found.numbers.items = search rules in
    omega (arith, lt, few c.walk.found c.walk.invariant.sound, c.walk.invariant.wide)

pub walk-preserved : goal.walk-preserved
walk-preserved c =
    let next = spelled_in c.args.scene.now c.args.functions.now in
    let old = c.walk.found.numbers.items in
    let lt : c.walk.at < length old = search rules in
    let is : c.index-next.result.now ≡ get_or old c.walk.at 0 = c.index-next.ensures ∙ get_or_default old c.walk.at c.index-next.result.now 0 lt in
    let found = c.in_ok-find_called-2.ensures in
    record {
      walked = goes_on next c.args.function old c.find_called-in-walk.new.found.numbers.items c.walk.at c.walk.invariant.walked lt
          (found.numbers ∙ ap (λ n. with_all old (next n)) is);
      sound = found.sound;
      wide = found.wide ∙ c.walk.invariant.wide;
    }

pub returns-clause-reached : goal.returns-clause-reached
returns-clause-reached c =
    let all : length c.walk.found.numbers.items ≤ c.walk.at = search rules in
    all_walked (spelled_in c.args.scene.now c.args.functions.now) c.args.function c.walk.found.numbers.items c.walk.at c.walk.invariant.walked all

pub returns-clause-within : goal.returns-clause-within
returns-clause-within c = λ g h.
    let below = found_below c.walk.found c.walk.invariant.sound g h in
    omega (arith, below, c.walk.invariant.wide)
