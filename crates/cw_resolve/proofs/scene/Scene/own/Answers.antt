use Rattle.std.proofs.Common.{◌≡◌, ◌++◌, List, map, ap, ap₂, ◌∙◌, subst}
use Rattle.std.specs.Result.{IfOk}
use Rattle.std.specs.List.{flat_map}
use Rattle.cw_syntax.specs.declared.program.Function.{Function}
use Rattle.cw_syntax.specs.Names.{text}
use Rattle.cw_syntax.specs.Plans.{Scene}
use Rattle.cw_syntax.specs.Trees.{definition_of, file_of}
use Rattle.cw_resolve.specs.declared.labelled.Labelled.{Labelled}
use Rattle.cw_resolve.specs.Labels.{labels_in_file, labels_of_all}
use Rattle.cw_resolve.specs.Listed.{text_at}
use Rattle.cw_resolve.proofs.Scening.{same_lists}
use Rattle.cw_resolve.proofs.scene.Scene.own.Goals as goal

pub returns : goal.returns
returns c =
    let source = c.args.checked.now.source.now in
    let labelled : c.put_function_labels.new.out.items ≡ labels_in_file (file_of c.args.checked.now.program) =
    c.in_ok-put_function_labels.ensures
    ∙ ap₂ (λ (out : List Labelled) (l : List Function). out ++ flat_map (λ f. labels_of_all f.body) (map definition_of l)) c.new-labelled.ensures.items c.deref-2.ensures.value
    in
    let is =
    same_lists source _ _ _ _ _ _ _ _
    (c.in_ok-functions.ensures ∙ ap (λ (l : List Function). map (λ f. text source f.name) (map definition_of l)) c.deref.ensures.value)
    (ap (map text_at) c.new-descriptors.ensures.items)
    (c.in_ok-labels.ensures ∙ ap (λ (l : List Labelled). map (λ x. text source x.name) l) (c.deref-3.ensures.value ∙ labelled))
    (ap (map text_at) c.new-splits.ensures.items)
    in
    record { scene = subst (λ (s : Scene). IfOk c.of.result (λ scene. scene ≡ s)) is c.of.ensures }
