use Rattle.std.proofs.Common.{◌≡◌, ◌<◌, ◌≤◌, List, length, sym, subst}
use Rattle.std.specs.Prelude.{option_map}
use Rattle.std.specs.Result.{IfOk}
use Rattle.cw_syntax.specs.declared.program.Function.{Function}
use Rattle.cw_syntax.specs.Plans.{Scene}
use Rattle.cw_syntax.specs.Frames.{pass}
use Rattle.cw_rights.specs.Policies.{policy_of}
use Rattle.cw_resolve.specs.Scenes.{scene_in}
use Rattle.cw_boards.specs.Held.{stack_in, plan_by, seams_before}
use Rattle.cw_boards.specs.Numbered.{most_seams, StackBelow}
use Rattle.cw_boards.specs.Turns.{way_in}
use Rattle.cw_boards.proofs.sourced.pass.Goals as goal

pub pass-requires : goal.pass-requires
pass-requires c =
    let is = sym c.requires.scene in
    record {
      labels = subst (λ (s : Scene). length s.names.labels ≤ 65535) is c.requires.valid.few_labels;
      few = subst (λ (s : Scene). seams_before s c.deref.result.now < most_seams) is
          (subst (λ (fs : List Function). seams_before (scene_in c.args.checked.now (policy_of c.args.policy.now)) fs < most_seams) (sym c.deref.ensures.value) c.requires.few);
      below = subst (λ (s : Scene). StackBelow most_seams (stack_in s c.args.frames)) is c.requires.below;
    }

pub returns : goal.returns
returns c =
    let stack = c.args.frames in
    let s = c.args.scene.now in
    let told =
    subst (λ (fs : List Function). IfOk c.pass.result (λ o. option_map (stack_in s) o ≡ pass (plan_by s fs) (stack_in s stack) (way_in c.args.way))) c.deref.ensures.value c.pass.ensures
    in
    let fs = c.args.checked.now.program.functions.items in
    subst (λ (s : Scene). IfOk c.pass.result (λ o. option_map (stack_in s) o ≡ pass (plan_by s fs) (stack_in s stack) (way_in c.args.way))) c.requires.scene told
