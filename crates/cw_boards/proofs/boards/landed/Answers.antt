use Rattle.std.proofs.Common.{Some, ap, sym, ◌∙◌}
use Rattle.std.specs.Prelude.{option_map}
use Rattle.cw_rights.specs.Policies.{policy_of}
use Rattle.cw_model.specs.Boards.{landed, mode_of}
use Rattle.cw_boards.specs.Held.{scene, stack_in, board_in, problem}
use Rattle.cw_boards.specs.Changes.{kept_by}
use Rattle.cw_boards.specs.Turns.{way_in}
use Rattle.cw_boards.proofs.Chosen.{landed_is, changed_by}
use Rattle.cw_boards.proofs.boards.landed.Goals as goal

pub returns : goal.returns
returns c =
    let pol = policy_of c.args.policy.now in
    let s = scene c.args.checked.now c.args.policy.now in
    let p = problem c.args.checked.now c.args.policy.now in
    let b = board_in c.args.checked.now c.args.policy.now c.args.state in
    let mode = mode_of c.args.split c.args.state.caps in
    let way = way_in c.args.way in
    let next = stack_in s c.in-Some.next in
    let g =
    changed_by p b mode way next c.args.kind c.in_ok-kept_next-in-Some.kept_next.items c.caps_after-after.result c.in_ok-word_next-in-Some.word_next.items _ (c.in_ok-kept_next-in-Some.ensures
    ∙ ap (λ m. kept_by c.args.kind m c.args.state.kept.items) c.mode_of.ensures) c.caps_after-after.ensures c.in_ok-word_next-in-Some.ensures (c.begin-phase.ensures pol s) in
    ap Some (g ∙ sym (landed_is p b mode way next c.args.kind c.requires.kind))
    ∙ ap (option_map (landed p mode b way)) (ap (option_map (stack_in s)) (sym c.in-Some.is) ∙ c.in_ok-pass.ensures)
