use Rattle.std.proofs.Common.{ap, sym, map, drop, ◌∙◌}
use Rattle.cw_rights.specs.Policies.{policy_of}
use Rattle.cw_resolve.specs.Scenes.{plan_in}
use Rattle.cw_boards.specs.Held.{scene, frame_in}
use Rattle.cw_boards.specs.Changes.{may_turn}
use Rattle.cw_boards.proofs.moves.may_turn.Goals as goal

pub returns-in-Breaks : goal.returns-in-Breaks
returns-in-Breaks c =
    let pol = policy_of c.args.policy.now in
    let s = scene c.args.checked.now c.args.policy.now in
    c.has_loop_end.ensures s ∙ sym (ap (λ t. may_turn (plan_in c.args.checked.now pol) t (frame_in s c.args.frame.now) (map (frame_in s) (drop 1 c.args.stack.now.items))) c.in-Breaks.is)

pub returns-in-Continues : goal.returns-in-Continues
returns-in-Continues c =
    let pol = policy_of c.args.policy.now in
    let s = scene c.args.checked.now c.args.policy.now in
    c.has_turn.ensures s ∙ sym (ap (λ t. may_turn (plan_in c.args.checked.now pol) t (frame_in s c.args.frame.now) (map (frame_in s) (drop 1 c.args.stack.now.items))) c.in-Continues.is)
