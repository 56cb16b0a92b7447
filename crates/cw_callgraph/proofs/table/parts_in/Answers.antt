use Rattle.std.proofs.Common.{◌≤◌, map, ap, ◌∙◌, sym, subst}
use Rattle.std.specs.List.{All}
use Rattle.cw_syntax.specs.Trees.{definition_of, file_of}
use Rattle.cw_syntax.specs.Plans.{Scene}
use Rattle.cw_rights.specs.Policies.{policy_of}
use Rattle.cw_resolve.proofs.Scening.{is_scene_of, many_functions}
use Rattle.cw_callgraph.specs.Finding.{AreBelow, lists_of, direct}
use Rattle.cw_callgraph.specs.Forbidding.{body_places}
use Rattle.cw_callgraph.specs.Lowest.{lowest}
use Rattle.cw_callgraph.proofs.table.parts_in.Goals as goal

pub all_calls-requires : goal.all_calls-requires
all_calls-requires c =
    let checked = c.args.checked.now in
    let s = c.args.scene.now in
    let same = many_functions s checked.program (is_scene_of s checked (policy_of c.args.policy.now) c.requires.scene) in
    record { few = subst (λ n. n ≤ 65535) (sym same) c.requires.few }

pub returns : goal.returns
returns c =
    let checked = c.args.checked.now in
    let fs = checked.program.functions.items in
    let file = file_of checked.program in
    let s = c.args.scene.now in
    let is = c.requires.scene in
    let same = many_functions s checked.program (is_scene_of s checked (policy_of c.args.policy.now) is) in
    record {
      calls = c.in_ok-rows.ensures.calls ∙ ap (λ (t : Scene). map (direct t) fs) is;
      below = subst (λ n. All (AreBelow n) (lists_of c.in_ok-rows.rows.items)) same c.in_ok-rows.ensures.below;
      heads = c.in_ok-bars.ensures.heads;
      bodies = c.in_ok-bars.ensures.bodies ∙ ap (λ (t : Scene). map (λ f. lowest (body_places t file (definition_of f))) fs) is;
    }
