use Rattle.std.proofs.Common.{ℕ, List, ◌++◌, ap, ◌∙◌}
use Rattle.std.proofs.lemmas.List.{append_assoc}
use Rattle.cw_policy.specs.Lines.{section_text, in_brackets, dotted_key}
use Rattle.cw_policy.proofs.lines.put_table_key.Goals as goal

pub returns-clause-text : goal.returns-clause-text
returns-clause-text g c =
    let old = c.args.line.now.text in
    let section = section_text c.args.section in
    let brackets = in_brackets c.args.index in
    let key = dotted_key c.args.section c.args.key in
    c.put_dotted_key.ensures.text
    ∙ ap (λ (t : List ℕ). t ++ key) (c.put_in_brackets.ensures.text ∙ ap (λ (t : List ℕ). t ++ brackets) (c.put.ensures.text ∙ ap (λ (t : List ℕ). old ++ t) c.section_text.ensures))
    ∙ ap (λ (t : List ℕ). t ++ key) (append_assoc old section brackets)
    ∙ append_assoc old (section ++ brackets) key
