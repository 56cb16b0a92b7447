use Rattle.std.proofs.Common.{◌∙◌, ◌≢◌, ◌≤◌, ◌<◌, ◌+◌, [], drop, arith}
use Rattle.cw_lemmas.proofs.Truths.{not_both}
use Rattle.cw_regex.specs.Parts.{parts}
use Rattle.cw_regex.specs.Labels.{names_in}
use Rattle.cw_regex.specs.Meaning.{names_of}
use Rattle.cw_regex.specs.Items.{levels_of}
use Rattle.cw_regex.proofs.Stepping.{put_start, put_step, put_end}
use Rattle.cw_regex.proofs.items.build.Goals as goal

pub loop-init : goal.loop-init
loop-init c = record {
  within = grind (arith);
  turns = grind (arith);
  so_far = put_start c.args.format (names_in c.args.labels.now.keys) (names_of c.args.descriptors.now) c.args.text.now
      (levels_of c.nothing-building.result) c.nothing-building.ensures;
}

pub returns-then-at_end : goal.returns-then-at_end
returns-then-at_end c e h = c.in_ok-tree.ensures ∙ put_end c.args.format (names_in c.args.labels.now.keys) (names_of c.args.descriptors.now) c.args.text.now c.loop.at
    (levels_of c.loop.building) c.loop.invariant.so_far (c.at_end.ensures.0 c.if-at_end.true) e h

pub loop-preserved : goal.loop-preserved
loop-preserved c =
    let more : parts (drop c.loop.at c.args.text.now) ≢ [] = λ z. not_both c.at_end.result (c.at_end.ensures.1 z) c.if-at_end.false in
    let was : c.loop.counter ≤ c.loop.at = c.loop.invariant.turns in
    let on : c.loop.at < c.in_ok-next.to = c.in_ok-next.ensures.on more in
    let turn : c.loop.counter + 1 ≤ c.in_ok-next.to = grind (arith) in
    record {
      within = c.in_ok-next.ensures.within;
      turns = turn;
      so_far = put_step c.args.format (names_in c.args.labels.now.keys) (names_of c.args.descriptors.now) c.args.text.now c.loop.at
          c.in_ok-next.to (levels_of c.loop.building) (levels_of c.in_ok-next.next) c.loop.invariant.so_far more c.in_ok-next.ensures.read c.in_ok-next.ensures.rest;
    }
