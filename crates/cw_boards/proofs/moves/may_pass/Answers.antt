use Rattle.std.proofs.Common.{◌≡◌, ◌<◌, length, get_or, map, drop, ap, ◌∙◌, rules}
use Rattle.cw_rights.specs.Policies.{policy_of}
use Rattle.cw_resolve.specs.Scenes.{plan_in}
use Rattle.cw_boards.specs.Held.{scene, frame_in}
use Rattle.cw_boards.specs.Changes.{may_turn}
use Rattle.cw_boards.specs.Turns.{turn_of}
use Rattle.cw_boards.proofs.Having.{may_at}
use Rattle.cw_boards.proofs.moves.may_pass.Goals as goal

pub returns-in-Some-front : goal.returns-in-Some-front
returns-in-Some-front c =
    let pol = policy_of c.args.policy.now in
    let s = scene c.args.checked.now c.args.policy.now in
    let plan = plan_in c.args.checked.now pol in
    let stack = c.args.stack.now.items in
    let frame = c.in-Some.frame.now in
    let item = c.in-Some-front.item.now in
    let l : 0 < length stack = search rules in
    let e : frame ≡ get_or stack 0 frame = search rules in
    let k : 0 < length frame.items = search rules in
    let f : item ≡ get_or frame.items 0 item = search rules in
    c.may_turn.ensures
    ∙ ap (λ t. may_turn plan t (frame_in s frame) (map (frame_in s) (drop 1 stack))) (c.turn_of-turn.ensures ∙ ap (λ k. turn_of k c.args.way) c.item_kind.ensures)
    ∙ may_at plan s stack frame item c.args.way l e k f
