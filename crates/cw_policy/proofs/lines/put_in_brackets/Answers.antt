use Rattle.std.proofs.Common.{ℕ, List, ◌++◌, ap, ◌∙◌}
use Rattle.std.proofs.lemmas.List.{append_assoc}
use Rattle.std.specs.Fmt.{decimal}
use Rattle.std.specs.Prelude.{codes}
use Rattle.cw_policy.proofs.lines.put_in_brackets.Goals as goal

pub returns-clause-text : goal.returns-clause-text
returns-clause-text g c =
    let old = c.args.line.now.text in
    let number = decimal c.args.number in
    c.put-2.ensures.text
    ∙ ap (λ (t : List ℕ). t ++ codes "]") ((rw c.from.ensures at c.put_number.ensures.text) ∙ ap (λ (t : List ℕ). t ++ number) c.put.ensures.text)
    ∙ append_assoc (old ++ codes "[") number (codes "]")
    ∙ append_assoc old (codes "[") (number ++ codes "]")
