use Rattle.std.proofs.Common.{Vec, ℕ, List, Global, map, ap, ◌∙◌}
use Rattle.cw_syntax.specs.Plans.{Scene}
use Rattle.cw_rights.specs.Policies.{policy_of}
use Rattle.cw_callgraph.specs.Barring.{first_without_label, first_without_function}
use Rattle.cw_callgraph.proofs.fit.missing_in.Goals as goal

pub missing-requires-clause-label : goal.missing-requires-clause-label
missing-requires-clause-label c =
    c.first_without_label-label.ensures
    ∙ ap (λ (l : List (Vec ℕ Global)). first_without_label c.args.scene.now.names.labels (map (λ n. n.items) l)) c.deref.ensures.value
    ∙ ap (λ (s : Scene). first_without_label s.names.labels (policy_of c.args.policy.now).labels) c.requires.scene

pub missing-requires-clause-function : goal.missing-requires-clause-function
missing-requires-clause-function c =
    c.first_without_function-function.ensures
    ∙ ap (λ (l : List (Vec ℕ Global)). first_without_function c.args.scene.now.functions (map (λ n. n.items) l)) c.deref-2.ensures.value
    ∙ ap (λ (s : Scene). first_without_function s.functions (policy_of c.args.policy.now).split) c.requires.scene
