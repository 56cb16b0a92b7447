use Rattle.std.proofs.Common.{◌≤◌, ◌+◌, ◌∷◌, map, ap, ◌∙◌, arith}
use Rattle.std.proofs.lemmas.Result.{IfOk-weaker}
use Rattle.cw_syntax.specs.Plans.{numbered, seams}
use Rattle.cw_syntax.specs.Frames.{Todo}
use Rattle.cw_resolve.specs.Scenes.{stm_in}
use Rattle.cw_boards.specs.Held.{item_of, frame_in}
use Rattle.cw_boards.specs.Numbered.{most_seams}
use Rattle.cw_boards.proofs.Below.{fits, whole}
use Rattle.cw_boards.proofs.steps.other_arm.Goals as goal

pub overflow_add-behind : goal.overflow_add-behind
overflow_add-behind c =
    let arm = stm_in c.args.scene.now c.args.arm.now in
    let total : c.args.seam + seams arm ≤ most_seams = fits most_seams arm c.args.seam (omega (arith, c.ranges.seam)) c.requires.below in
    omega (arith, total, whole c.seams.result (seams arm) c.seams.ensures (omega (arith, total)))

pub returns : goal.returns
returns c =
    let s = c.args.scene.now in
    let arm = stm_in s c.args.arm.now in
    let total : c.args.seam + seams arm ≤ most_seams = fits most_seams arm c.args.seam (omega (arith, c.ranges.seam)) c.requires.below in
    let own = whole c.seams.result (seams arm) c.seams.ensures (omega (arith, total)) in
    IfOk-weaker c.put.result _ _ (λ next h. ap (map (item_of s)) h ∙ ap (λ j. Todo (numbered (stm_in s c.args.other.now) (c.args.seam + j)) ∷ frame_in s c.args.rest) own) c.put.ensures
