use Rattle.std.proofs.Common.{◌≡◌, ◌<◌, ◌≤◌, length, refl, ap, ◌∙◌, subst, arith}
use Rattle.std.proofs.lemmas.Result.{err_from_is_err_and}
use Rattle.cw_core.specs.Quantities.{limit_of}
use Rattle.cw_core.specs.declared.quantity.Quantity.TheVariants.{Points}
use Rattle.cw_syntax.specs.Plans.{Scene, plan_of}
use Rattle.cw_syntax.specs.Trees.{file_of}
use Rattle.cw_resolve.specs.Own.{own_scene}
use Rattle.cw_resolve.proofs.Scening.{same_scene_of}
use Rattle.cw_points.specs.Graphs.{IsGraph}
use Rattle.cw_points.specs.Points.{point_count}
use Rattle.cw_callgraph.specs.Effects.{calls, Each}
use Rattle.cw_source_graph.specs.Own.{own_names}
use Rattle.cw_source_graph.proofs.Drawing.{is_drawn}
use Rattle.cw_source_graph.proofs.Labelled.{many_labels}
use Rattle.cw_source_graph.proofs.own.drawn_in.Goals as goal

pub returns-then-label_count-gt-LABELS-clause-many : goal.returns-then-label_count-gt-LABELS-clause-many
returns-then-label_count-gt-LABELS-clause-many c =
    let source = c.args.checked.now.source.now in
    let file = file_of c.args.checked.now.program in
    let many = c.label_count.ensures.count ∙ ap (λ (s : Scene). length s.names.labels) c.requires.scene in
    λ e. many_labels (own_names source file) source file c.label_count.result many c.if-label_count-gt-LABELS.true

pub build_in-requires-clause-scene : goal.build_in-requires-clause-scene
build_in-requires-clause-scene c =
    same_scene_of c.args.scene.now (own_scene c.args.checked.now) (file_of c.args.checked.now.program) c.requires.scene refl

pub build_in-requires-clause-labels : goal.build_in-requires-clause-labels
build_in-requires-clause-labels c = omega (arith, c.label_count.ensures.count, c.if-label_count-gt-LABELS.false)

pub build_in-requires-clause-descriptors : goal.build_in-requires-clause-descriptors
build_in-requires-clause-descriptors c = omega (arith, ap (λ (s : Scene). length s.names.descriptors) c.requires.scene)

pub returns-in_err-graph-clause-many : goal.returns-in_err-graph-clause-many
returns-in_err-graph-clause-many c =
    let file = file_of c.args.checked.now.program in
    let p = err_from_is_err_and c.from_residual.result c.from_residual.ensures.1 in
    rw (p.1, p.2) (λ e. subst (λ (s : Scene). limit_of Points < point_count (plan_of s.names s.source file)) c.requires.scene (c.in_err-graph.ensures.many e))

pub calls_in-requires-clause-scene : goal.calls_in-requires-clause-scene
calls_in-requires-clause-scene c =
    same_scene_of c.args.scene.now (own_scene c.args.checked.now) (file_of c.args.checked.now.program) c.requires.scene refl

pub returns-clause-drawn : goal.returns-clause-drawn
returns-clause-drawn c =
    let source = c.args.checked.now.source.now in
    let program = c.args.checked.now.program in
    let file = file_of program in
    let is = c.requires.scene in
    let graph = c.in_ok-graph.graph in
    let rows = c.in_ok-calls.calls in
    is_drawn (own_names source file) source program (record { labels = c.in_ok-labels.labels; graph = graph; calls = rows })
    (subst (λ (s : Scene). point_count (plan_of s.names s.source file) ≤ limit_of Points) is c.in_ok-graph.ensures.few)
    c.in_ok-labels.ensures.names
    (subst (λ (s : Scene). IsGraph s.names s.source file graph) is c.in_ok-graph.ensures.graph)
    c.in_ok-calls.ensures.count
    (subst (λ (s : Scene). Each (λ f row. row.items ≡ calls (plan_of s.names s.source file) f) rows.items) is c.in_ok-calls.ensures.calls)
