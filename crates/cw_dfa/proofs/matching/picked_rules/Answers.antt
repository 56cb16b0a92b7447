use Rattle.std.proofs.Common.{rules, ◌≡◌, ◌+◌, ◌≤◌, length, ap, ◌∷◌, ◌<◌, get_or, drop}
use Rattle.cw_rights.specs.Trees.{alt, never, tree_of}
use Rattle.cw_dfa.specs.Positions.{bad_of}
use Rattle.cw_dfa.specs.Verdicts.{rules_of}
use Rattle.cw_rights.proofs.Along.{drop_item}
use Rattle.std.proofs.lemmas.List.{drop_all}
use Rattle.cw_dfa.specs.Tables.{picks}
use Rattle.cw_dfa.proofs.Along.{rules_step, rules_end}
use Rattle.cw_dfa.proofs.matching.picked_rules.Goals as goal

pub loop-rule-preserved : goal.loop-rule-preserved
loop-rule-preserved c =
    let part = tree_of c.rule-item.result.bad in
    let rest = bad_of (rules_of (drop (c.loop-rule.rule-index + 1) c.args.rules.now)) in
    let lt : c.loop-rule.rule-index < length c.args.rules.now = search rules in
    let at : get_or c.args.rules.now c.loop-rule.rule-index c.rule-item.result ≡ c.rule-item.result = search rules in
    let cut : drop c.loop-rule.rule-index c.args.rules.now ≡ c.rule-item.result ∷ drop (c.loop-rule.rule-index + 1) c.args.rules.now =
    drop_item c.args.rules.now c.loop-rule.rule-index c.rule-item.result lt at in
    let whole : bad_of (rules_of (drop c.loop-rule.rule-index c.args.rules.now)) ≡ alt part rest = ap (λ l. bad_of (rules_of l)) cut in
    record {
      room = search rules;
      so_far = rules_step (picks c.args.sought) _ part rest c.loop-rule.set c.loop-rule.next _ _ _ whole c.picked-found.ensures.set c.picked-found.ensures.next c.loop-rule.invariant.so_far;
    }

pub returns : goal.returns
returns c =
    let far : length c.args.rules.now ≤ c.loop-rule.rule-index = search rules in
    let whole : bad_of (rules_of (drop c.loop-rule.rule-index c.args.rules.now)) ≡ never = ap (λ l. bad_of (rules_of l)) (drop_all c.loop-rule.rule-index c.args.rules.now far) in
    rules_end (picks c.args.sought) _ c.loop-rule.set c.loop-rule.next _ whole c.loop-rule.invariant.so_far
