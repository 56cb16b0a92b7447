use Rattle.std.proofs.Common.{ℕ, List, ◌++◌, ap, ◌∙◌}
use Rattle.std.proofs.lemmas.List.{append_assoc}
use Rattle.std.specs.Fmt.{decimal}
use Rattle.cw_policy.specs.Lines.{rule_text}
use Rattle.cw_policy.proofs.lines.put_refused.Goals as goal

pub returns-clause-text : goal.returns-clause-text
returns-clause-text g c =
    let old = c.args.line.now.text in
    let reason = c.args.reason.now in
    let at = decimal c.args.at in
    let rule = rule_text c.args.index in
    (rw c.from.ensures at c.put_number.ensures.text)
    ∙ ap (λ (t : List ℕ). t ++ at) (c.put.ensures.text ∙ ap (λ (t : List ℕ). t ++ reason) c.put_rule.ensures.text)
    ∙ ap (λ (t : List ℕ). t ++ at) (append_assoc old rule reason)
    ∙ append_assoc old (rule ++ reason) at
