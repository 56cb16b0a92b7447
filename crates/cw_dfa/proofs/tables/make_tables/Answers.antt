use Rattle.std.proofs.Common.{rules, ◌≡◌, ◌+◌, ◌≤◌, length, ap, ◌∷◌, [], ◌<◌, get_or, drop, take, subst, arith}
use Rattle.std.proofs.lemmas.List.{length-map}
use Rattle.cw_rights.specs.Trees.{alt, never, tree_of}
use Rattle.cw_rights.specs.Policies.{rule_of}
use Rattle.cw_dfa.specs.Positions.{bad_of}
use Rattle.cw_dfa.specs.Verdicts.{rules_of}
use Rattle.cw_dfa.specs.Tables.{lasts_of}
use Rattle.cw_rights.proofs.Along.{drop_item}
use Rattle.std.proofs.lemmas.List.{drop_all}
use Rattle.cw_dfa.proofs.Along.{first_step, first_end, follow_step, follow_end, last_step, last_end}
use Rattle.cw_dfa.proofs.tables.make_tables.Goals as goal

pub loop-i-preserved : goal.loop-i-preserved
loop-i-preserved c =
    let part = tree_of c.index-rules-i.result.bad in
    let rest = bad_of (rules_of (drop (c.loop-i.i + 1) c.args.rules.now)) in
    let lt : c.loop-i.i < length c.args.rules.now = search rules in
    let at : get_or c.args.rules.now c.loop-i.i c.index-rules-i.result ≡ c.index-rules-i.result = search rules in
    let cut : drop c.loop-i.i c.args.rules.now ≡ c.index-rules-i.result ∷ drop (c.loop-i.i + 1) c.args.rules.now = drop_item c.args.rules.now c.loop-i.i c.index-rules-i.result lt at in
    let whole : bad_of (rules_of (drop c.loop-i.i c.args.rules.now)) ≡ alt part rest = ap (λ l. bad_of (rules_of l)) cut in
    let was = c.loop-i.invariant in
    let own = c.add_part-part.ensures.is in
    let within : c.loop-i.i < length c.loop-i.last = search rules in
    record {
      room = search rules;
      rows = search rules;
      ends = search rules;
      first = first_step _ part rest c.loop-i.first c.loop-i.at _ _ _ whole own.first own.next was.first;
      follow = λ p l. follow_step _ part rest c.loop-i.follow c.add_part-part.new.follow c.loop-i.at _ p _ whole (c.add_part-part.ensures.gains p l) own.next (was.follow p l);
      last = last_step (rules_of (drop c.loop-i.i c.args.rules.now)) (rules_of (drop (c.loop-i.i + 1) c.args.rules.now)) (rule_of c.index-rules-i.result) c.loop-i.last c.loop-i.i c.loop-i.at
          _ _ _ within (ap rules_of cut) own.last own.next was.last;
    }

pub returns : goal.returns
returns c =
    let far : length c.args.rules.now ≤ c.loop-i.i = c.loop-i-test.false in
    let done : c.loop-i.i ≡ length (rules_of c.args.rules.now) = omega (arith, length-map c.args.rules.now rule_of) in
    let none : rules_of (drop c.loop-i.i c.args.rules.now) ≡ [] = ap rules_of (drop_all c.loop-i.i c.args.rules.now far) in
    let whole : bad_of (rules_of (drop c.loop-i.i c.args.rules.now)) ≡ never = ap bad_of none in
    let was = c.loop-i.invariant in
    record {
      first = first_end _ c.loop-i.first c.loop-i.at _ whole was.first;
      follow = λ p l. follow_end _ c.loop-i.follow c.loop-i.at p _ whole (was.follow p l);
      last = subst (λ n. take n c.loop-i.last ≡ lasts_of (rules_of c.args.rules.now) 1) done (last_end _ c.loop-i.last c.loop-i.i c.loop-i.at _ none was.last);
    }
