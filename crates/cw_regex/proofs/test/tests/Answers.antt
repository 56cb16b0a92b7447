use Rattle.std.proofs.Common.{rules, ◌≡◌, ◌<◌, [], ◌∷◌, ◌++◌, true, false, arith}
use Rattle.cw_regex.specs.Meaning.{names_of}
use Rattle.cw_regex.proofs.Subjects.{tests_step, tests_end}
use Rattle.cw_regex.proofs.test.tests.Goals as goal

pub returns-then-not-more-clause-read : goal.returns-then-not-more-clause-read
returns-then-not-more-clause-read c t ts rest h =
    let grows : c.push.new.self.items ≡ c.loop.read.items ++ c.test-end.result.0 ∷ [] = search rules in
    let last : c.after_test-more.result.0 ≡ false = search rules in
    let after = c.after_test-more.ensures in
    (tests_end c.args.format (names_of c.args.descriptors.now) c.args.text.now c.args.at c.loop.from c.test-end.result.1 c.after_test-more.result.1 c.loop.read.items c.push.new.self.items
    c.test-end.result.0 c.after_test-more.result.0 c.loop.invariant.so_far grows last c.test-end.ensures.read c.test-end.ensures.rest after.more after.rest t ts rest h).0

pub returns-then-not-more-clause-rest : goal.returns-then-not-more-clause-rest
returns-then-not-more-clause-rest c t ts rest h =
    let grows : c.push.new.self.items ≡ c.loop.read.items ++ c.test-end.result.0 ∷ [] = search rules in
    let last : c.after_test-more.result.0 ≡ false = search rules in
    let after = c.after_test-more.ensures in
    (tests_end c.args.format (names_of c.args.descriptors.now) c.args.text.now c.args.at c.loop.from c.test-end.result.1 c.after_test-more.result.1 c.loop.read.items c.push.new.self.items
    c.test-end.result.0 c.after_test-more.result.0 c.loop.invariant.so_far grows last c.test-end.ensures.read c.test-end.ensures.rest after.more after.rest t ts rest h).1

pub loop-preserved : goal.loop-preserved
loop-preserved c =
    let grows : c.push.new.self.items ≡ c.loop.read.items ++ c.test-end.result.0 ∷ [] = search rules in
    let more : c.after_test-more.result.0 ≡ true = search rules in
    let after = c.after_test-more.ensures in
    let was = c.loop.invariant in
    let one = c.test-end.ensures.on in
    let two : c.test-end.result.1 < c.after_test-more.result.1 = after.further more in
    record {
      within = after.within;
      turns = omega (arith, was.turns);
      on = omega (arith, was.on);
      so_far = tests_step c.args.format (names_of c.args.descriptors.now) c.args.text.now c.args.at c.loop.from c.test-end.result.1 c.after_test-more.result.1 c.loop.read.items
          c.push.new.self.items c.test-end.result.0 c.after_test-more.result.0 was.so_far grows more c.test-end.ensures.read c.test-end.ensures.rest after.last after.next;
    }
