use Rattle.std.proofs.Common.{rules, ◌≡◌, ◌<◌, ◌≤◌, false, drop, subst, sym, arith}
use Rattle.cw_regex.specs.Parts.{parts}
use Rattle.cw_regex.specs.Meaning.{labels_in, with_names}
use Rattle.cw_regex.specs.Labels.{names_in, Gains}
use Rattle.cw_regex.proofs.Adding.{adds_more, adds_all, adds_gains, gains_all}
use Rattle.cw_regex.proofs.label.add_labels.Goals as goal

pub returns-in_err-label_token-clause-gains : goal.returns-in_err-label_token-clause-gains
returns-in_err-label_token-clause-gains c =
    let text = c.args.text.now in
    let was = adds_gains text (names_in c.args.labels.now.keys) (names_in c.loop.labels.keys) (labels_in c.loop.so_far.inside (parts (drop c.loop.so_far.at text))) c.loop.invariant.adds in
    subst (Gains text (names_in c.args.labels.now.keys)) (sym c.in_err-label_token.ensures.kept) was

pub loop-preserved : goal.loop-preserved
loop-preserved c =
    let text = c.args.text.now in
    let next : c.loop.so_far.at < c.in-Some.next.at = search rules in
    let turns : c.loop.counter ≤ c.loop.so_far.at = c.loop.invariant.turns in
    record {
      within = search rules;
      turns = omega (arith, next, turns);
      few = search rules;
      adds = adds_more (names_in c.args.labels.now.keys) (names_in c.loop.labels.keys) (names_in c.label_token.new.labels.keys) (labels_in false (parts text))
          (labels_in c.loop.so_far.inside (parts (drop c.loop.so_far.at text))) (labels_in c.in-Some.next.inside (parts (drop c.in-Some.next.at text))) c.loop.invariant.adds (search rules);
    }

pub returns-in-None-clause-gains : goal.returns-in-None-clause-gains
returns-in-None-clause-gains c =
    let text = c.args.text.now in
    let old = names_in c.args.labels.now.keys in
    let now = names_in c.loop.labels.keys in
    let new = names_in c.label_token.new.labels.keys in
    let left = labels_in c.loop.so_far.inside (parts (drop c.loop.so_far.at text)) in
    let rest : new ≡ with_names now left = search rules in
    gains_all text old new (adds_all old now new (labels_in false (parts text)) left c.loop.invariant.adds rest)
