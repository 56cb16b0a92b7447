use Rattle.std.proofs.Common.{◌≡◌, ◌<◌, List, sym, subst}
use Rattle.std.specs.Result.{IfOk}
use Rattle.cw_syntax.specs.declared.program.Function.{Function}
use Rattle.cw_syntax.specs.Plans.{Scene}
use Rattle.cw_syntax.specs.Frames.{start_stack}
use Rattle.cw_rights.specs.Policies.{policy_of}
use Rattle.cw_resolve.specs.Scenes.{scene_in}
use Rattle.cw_boards.specs.Held.{stack_in, plan_by, seams_before}
use Rattle.cw_boards.specs.Numbered.{most_seams}
use Rattle.cw_boards.proofs.sourced.start_stack.Goals as goal

pub start_stack-requires : goal.start_stack-requires
start_stack-requires c = record {
  few = subst (λ (s : Scene). seams_before s c.deref.result.now < most_seams) (sym c.requires.scene)
      (subst (λ (fs : List Function). seams_before (scene_in c.args.checked.now (policy_of c.args.policy.now)) fs < most_seams) (sym c.deref.ensures.value) c.requires.few);
}

pub returns : goal.returns
returns c =
    let s = c.args.scene.now in
    let told = subst (λ (fs : List Function). IfOk c.start_stack.result (λ stack. stack_in s stack ≡ start_stack (plan_by s fs))) c.deref.ensures.value c.start_stack.ensures in
    subst (λ (s : Scene). IfOk c.start_stack.result (λ stack. stack_in s stack ≡ start_stack (plan_by s c.args.checked.now.program.functions.items))) c.requires.scene told
