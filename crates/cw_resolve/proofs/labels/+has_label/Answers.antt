use Rattle.std.proofs.Common.{◌≡◌, ◌||◌, Bool, false, List, map, sym, ap, ◌∙◌}
use Rattle.std.specs.List.{list_any}
use Rattle.std.specs.Str.{bytes_eq}
use Rattle.cw_syntax.specs.declared.program.Stmt.{Stmt}
use Rattle.cw_syntax.specs.declared.program.What.{What}
use Rattle.cw_syntax.specs.declared.program.What.TheVariants.{If}
use Rattle.cw_syntax.specs.Names.{text}
use Rattle.cw_syntax.specs.Trees.{form_of, statement_of}
use Rattle.cw_resolve.specs.declared.labelled.Labelled.{Labelled}
use Rattle.cw_resolve.specs.Labels.{labels_of, labels_in}
use Rattle.cw_resolve.proofs.LabelJoins.{any_label}
use Rattle.cw_resolve.proofs.labels.+has_label.Goals as goal

pub has_label-returns-else-has_label : goal.has_label-returns-else-has_label
has_label-returns-else-has_label t c =
    let among : List Labelled → Bool = λ ls. list_any (bytes_eq c.args.name.now) (map (λ l. text c.args.source.now l.name) ls) in
    let a = labels_of (statement_of c.in-If.arm.value) in
    let b = labels_of (statement_of c.in-Some.other.value) in
    let here : among a ≡ false = sym (c.has_label-in-Some.ensures ∙ ap (λ (s : Stmt). among (labels_of (statement_of s))) c.deref-in-Some.ensures) ∙ c.if-has_label.false in
    let there = c.has_label-else-has_label.ensures ∙ ap (λ (s : Stmt). among (labels_of (statement_of s))) c.deref-else-has_label.ensures in
    there ∙ ap (λ x. x || among b) (sym here) ∙ sym (any_label c.args.source.now c.args.name.now a b)
    ∙ sym (ap (λ (w : What). among (labels_in (form_of w))) (c.in-If.is ∙ ap (λ o. If c.in-If.field-0 c.in-If.arm o) c.in-Some.is))
