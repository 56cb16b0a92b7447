use Rattle.std.proofs.Common.{ℕ, List, ◌++◌, ap, ◌∙◌}
use Rattle.std.proofs.lemmas.List.{append_assoc}
use Rattle.cw_policy.specs.Lines.{section_of, key_part, item_text}
use Rattle.cw_policy.proofs.lines.put_path.Goals as goal

pub returns-clause-text : goal.returns-clause-text
returns-clause-text g c =
    let old = c.args.line.now.text in
    let path = c.args.path in
    let item = item_text path.item in
    c.put_item.ensures.text
    ∙ ap (λ (t : List ℕ). t ++ item) (c.put_key.ensures.text ∙ ap (λ section. old ++ key_part section path.index path.key) c.section_of.ensures)
    ∙ append_assoc old (key_part (section_of path.array) path.index path.key) item
