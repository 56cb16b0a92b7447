use Rattle.std.proofs.Common.{◌≡◌, List, map, ap, ◌∙◌, subst}
use Rattle.std.specs.Result.{IfOk}
use Rattle.cw_syntax.specs.declared.program.Function.{Function}
use Rattle.cw_syntax.specs.Names.{text}
use Rattle.cw_syntax.specs.Plans.{Scene}
use Rattle.cw_syntax.specs.Trees.{definition_of}
use Rattle.cw_rights.specs.declared.policy.Descriptor.{Descriptor}
use Rattle.cw_rights.specs.Policies.{descriptor_of}
use Rattle.cw_resolve.specs.Held.{lists}
use Rattle.cw_resolve.proofs.Scening.{same_lists}
use Rattle.cw_resolve.proofs.scene.Scene.under.Goals as goal

pub returns : goal.returns
returns c =
    let source = c.args.checked.now.source.now in
    let is =
    same_lists source _ _ _ _ _ _ _ _
    (c.in_ok-functions.ensures ∙ ap (λ (l : List Function). map (λ f. text source f.name) (map definition_of l)) c.deref.ensures.value)
    (c.in_ok-descriptors.ensures ∙ ap (λ (l : List Descriptor). map (λ d. d.name) (map descriptor_of l)) c.deref-2.ensures.value)
    (c.in_ok-labels.ensures ∙ ap lists c.deref-3.ensures.value)
    (c.in_ok-splits.ensures ∙ ap lists c.deref-4.ensures.value)
    in
    record { scene = subst (λ (s : Scene). IfOk c.of.result (λ scene. scene ≡ s)) is c.of.ensures }
