use Rattle.std.proofs.Common.{◌≡◌, Some, true, false, ap, sym, ◌∙◌, arith}
use Rattle.std.specs.Prelude.{option_map}
use Rattle.std.proofs.lemmas.Option.{none-some}
use Rattle.cw_rights.specs.Policies.{policy_of}
use Rattle.cw_boards.specs.Held.{scene, board_in, problem}
use Rattle.cw_boards.specs.Numbered.{most_seams}
use Rattle.cw_boards.proofs.Below.{chosen_below, frames_below}
use Rattle.cw_boards.proofs.Chosen.{moved_by_kind}
use Rattle.cw_boards.proofs.boards.board_move.Goals as goal

pub returns-in-None : goal.returns-in-None
returns-in-None c = λ next h.
    let pol = policy_of c.args.policy.now in
    let s = scene c.args.checked.now c.args.policy.now in
    let p = problem c.args.checked.now c.args.policy.now in
    let b = board_in c.args.checked.now c.args.policy.now c.args.board.state in
    let m = moved_by_kind p b c.front_kind-kind.result c.args.board.state.phase c.args.by c.choice_of-choice.result c.front_kind-kind.ensures c.choice_of-choice.ensures in
    none-some next (sym (m ∙ sym c.in_ok-chosen.ensures ∙ ap (option_map (board_in c.args.checked.now c.args.policy.now)) c.in-None.is) ∙ h.1)

pub returns : goal.returns
returns c =
    let pol = policy_of c.args.policy.now in
    let s = scene c.args.checked.now c.args.policy.now in
    let p = problem c.args.checked.now c.args.policy.now in
    let b = board_in c.args.checked.now c.args.policy.now c.args.board.state in
    let m = moved_by_kind p b c.front_kind-kind.result c.args.board.state.phase c.args.by c.choice_of-choice.result c.front_kind-kind.ensures c.choice_of-choice.ensures in (
      (
        λ v. let t = c.requires.board.judged.1 v in let z : false ≡ true = sym c.if-violates.false ∙ t in absurd (cc),
        m ∙ sym c.in_ok-chosen.ensures ∙ ap (option_map (board_in c.args.checked.now c.args.policy.now)) c.in-Some.is ∙ ap Some (sym c.in_ok-after-in-Some.ensures.same),
      ),
      c.in_ok-after-in-Some.ensures.board,
    )

pub chosen-requires : goal.chosen-requires
chosen-requires c = record { valid = c.requires.valid; scene = c.requires.board.named; few = c.requires.board.few; below = c.requires.board.below }

pub judged-requires : goal.judged-requires
judged-requires c =
    let s = scene c.args.checked.now c.args.policy.now in
    let p = problem c.args.checked.now c.args.policy.now in
    let b = board_in c.args.checked.now c.args.policy.now c.args.board.state in
    let fs = c.args.checked.now.program.functions.items in
    let after = board_in c.args.checked.now c.args.policy.now c.in-Some.next in
    let is = sym c.in_ok-chosen.ensures ∙ ap (option_map (board_in c.args.checked.now c.args.policy.now)) c.in-Some.is in
    record {
      valid = c.requires.valid;
      scene = c.requires.board.named;
      few = c.requires.board.few;
      below = chosen_below most_seams p b after c.choice_of-choice.result c.args.by is (λ f frame e. frames_below most_seams s fs f frame e (omega (arith, c.requires.board.few)))
          c.requires.board.below;
    }
