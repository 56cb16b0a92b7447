use Rattle.std.proofs.Common.{◌≡◌, subst}
use Rattle.std.specs.Result.{IfOk}
use Rattle.cw_rights.specs.Policies.{policy_of}
use Rattle.cw_syntax.specs.Trees.{file_of}
use Rattle.cw_syntax.specs.Plans.{Scene, plan_of}
use Rattle.cw_resolve.proofs.Scening.{is_scene_of}
use Rattle.cw_callgraph.specs.Effects.{calls, Each}
use Rattle.cw_callgraph.proofs.table.call_table.Goals as goal

pub calls_in-requires-clause-scene : goal.calls_in-requires-clause-scene
calls_in-requires-clause-scene c = is_scene_of c.in_ok-scene.scene c.args.checked.now (policy_of c.args.policy.now) c.in_ok-scene.ensures.scene

pub returns-clause-calls : goal.returns-clause-calls
returns-clause-calls c =
    let file = file_of c.args.checked.now.program in
    subst (λ (s : Scene). IfOk c.calls_in.result (λ rows. Each (λ f row. row.items ≡ calls (plan_of s.names s.source file) f) rows.items)) c.in_ok-scene.ensures.scene c.calls_in.ensures.calls
