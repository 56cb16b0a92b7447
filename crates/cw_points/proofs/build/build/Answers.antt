use Rattle.std.proofs.Common.{◌≡◌, ◌<◌, ◌≤◌, length, ap, sym, ◌∙◌, subst}
use Rattle.std.specs.Result.{IfOk, IfErr}
use Rattle.std.proofs.lemmas.List.{length-map}
use Rattle.cw_core.specs.Quantities.{limit_of}
use Rattle.cw_core.specs.declared.quantity.Quantity.TheVariants.{Points}
use Rattle.cw_rights.specs.Policies.{PlainDescriptor, policy_of}
use Rattle.cw_syntax.specs.Trees.{file_of}
use Rattle.cw_syntax.specs.Plans.{Scene, plan_of}
use Rattle.cw_resolve.proofs.Scening.{is_scene_of}
use Rattle.cw_points.specs.Graphs.{IsGraph}
use Rattle.cw_points.specs.Points.{point_count}
use Rattle.cw_points.specs.declared.fault.PointsFault.TheVariants.{TooManyPoints}
use Rattle.cw_points.proofs.build.build.Goals as goal

pub build_in-requires-clause-scene : goal.build_in-requires-clause-scene
build_in-requires-clause-scene c = is_scene_of c.in_ok-scene.scene c.args.checked.now (policy_of c.args.policy.now) c.in_ok-scene.ensures.scene

pub build_in-requires-clause-labels : goal.build_in-requires-clause-labels
build_in-requires-clause-labels c = subst (λ (s : Scene). length s.names.labels ≤ 65535) (sym c.in_ok-scene.ensures.scene) c.requires.labels

pub build_in-requires-clause-descriptors : goal.build_in-requires-clause-descriptors
build_in-requires-clause-descriptors c =
    let descriptors = (policy_of c.args.policy.now).descriptors in
    let many = ap (λ (s : Scene). length s.names.descriptors) c.in_ok-scene.ensures.scene ∙ length-map descriptors (λ (d : PlainDescriptor). d.name) in
    subst (λ n. n ≤ 255) (sym many) c.requires.descriptors

pub returns-clause-graph : goal.returns-clause-graph
returns-clause-graph c =
    let file = file_of c.args.checked.now.program in
    subst (λ (s : Scene). IfOk c.build_in.result (IsGraph s.names s.source file)) c.in_ok-scene.ensures.scene c.build_in.ensures.graph

pub returns-clause-few : goal.returns-clause-few
returns-clause-few c =
    let file = file_of c.args.checked.now.program in
    subst (λ (s : Scene). IfOk c.build_in.result (λ _. point_count (plan_of s.names s.source file) ≤ limit_of Points)) c.in_ok-scene.ensures.scene c.build_in.ensures.few

pub returns-clause-many : goal.returns-clause-many
returns-clause-many c =
    let file = file_of c.args.checked.now.program in
    subst (λ (s : Scene). IfErr c.build_in.result (λ fault. fault ≡ TooManyPoints → limit_of Points < point_count (plan_of s.names s.source file)))
    c.in_ok-scene.ensures.scene c.build_in.ensures.many
