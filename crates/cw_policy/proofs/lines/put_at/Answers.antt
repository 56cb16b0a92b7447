use Rattle.std.proofs.Common.{ℕ, List, ◌++◌, ap, ◌∙◌}
use Rattle.std.proofs.lemmas.List.{append_assoc}
use Rattle.cw_policy.specs.Lines.{path_text}
use Rattle.cw_policy.proofs.lines.put_at.Goals as goal

pub returns-clause-text : goal.returns-clause-text
returns-clause-text g c =
    let path = path_text c.args.path in
    c.put_path.ensures.text ∙ ap (λ (t : List ℕ). t ++ path) c.put.ensures.text ∙ append_assoc c.args.line.now.text c.args.reason.now path
