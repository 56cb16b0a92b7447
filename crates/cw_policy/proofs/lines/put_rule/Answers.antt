use Rattle.std.proofs.Common.{ℕ, List, ◌++◌, ap, ◌∙◌}
use Rattle.std.proofs.lemmas.List.{append_assoc}
use Rattle.std.specs.Prelude.{codes}
use Rattle.cw_policy.specs.Lines.{in_brackets, rule_text}
use Rattle.cw_policy.proofs.lines.put_rule.Goals as goal

pub returns-clause-text : goal.returns-clause-text
unfolding rule_text
returns-clause-text g c =
    let index = c.args.index in
    c.put_in_brackets.ensures.text ∙ ap (λ (t : List ℕ). t ++ in_brackets index) c.put.ensures.text ∙ append_assoc c.args.line.now.text (codes "policy: regex rule") (in_brackets index)
