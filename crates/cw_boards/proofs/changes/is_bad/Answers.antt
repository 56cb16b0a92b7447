use Rattle.std.proofs.Common.{◌≡◌, ◌<◌, ◌≤◌, List, [], length, get_or, subst, ap, sym, ◌∙◌, refl, arith, rules}
use Rattle.std.proofs.lemmas.Bool.Decides.{nat_tests}
use Rattle.cw_rights.specs.declared.policy.Rule.{Rule}
use Rattle.cw_rights.specs.Trees.{tree_of}
use Rattle.cw_rights.specs.Words.{Matches}
use Rattle.cw_rights.specs.Policies.{rule_of}
use Rattle.cw_lemmas.proofs.Lists.{get_mapped}
use Rattle.cw_boards.proofs.Gets.{from_mapped}
use Rattle.cw_boards.proofs.changes.is_bad.Goals as goal

pub returns-then-matches_plain : goal.returns-then-matches_plain
returns-then-matches_plain c =
    let xs = c.args.policy.now.rules.items in
    let i = c.loop-rule.rule-index in
    let x = c.rule-item.result in
    let l : i < length xs = search rules in
    let e : x ≡ get_or xs i x = c.rule-item.is ∙ ap (λ (ys : List Rule). get_or ys i x) c.deref-rule-items.ensures.value in
    let m : Matches (tree_of x.bad) c.args.word.now = search rules in
    let n : c.args.word.now ≡ [] → ⊥ = λ z. let k : length c.args.word.now ≡ 0 = ap length z in absurd (grind (arith, nat_tests)) in
    (λ _. (i, (n, rule_of x, get_mapped rule_of xs i x l e, m)), λ _. refl)

pub returns : goal.returns
returns c =
    let xs = c.args.policy.now.rules.items in
    let l : length xs ≤ c.loop-rule.rule-index = search rules in (
      λ z. absurd (cc),
      λ bad.
          let g = from_mapped rule_of xs bad.0 bad.1.1 bad.1.2 in
          let k : bad.0 < c.loop-rule.rule-index = omega (arith, g.1, l) in
          absurd (c.loop-rule.invariant bad.0 g.0 k g.2 (subst (λ r. Matches r.bad c.args.word.now) (sym g.3) bad.1.3)),
    )
