use Rattle.std.proofs.Common.{◌∷◌, [], ◌++◌, Some, None, refl, sym, subst}
use Rattle.cw_rights.specs.Policies.{policy_of, IsBad}
use Rattle.cw_boards.specs.Held.{scene, board_in, problem}
use Rattle.cw_boards.proofs.Chosen.{letter_by_kind, violates_not, violates_where}
use Rattle.cw_boards.proofs.boards.judged.Goals as goal

pub returns-in-None-clause-board : goal.returns-in-None-clause-board
returns-in-None-clause-board c =
    let pol = policy_of c.args.policy.now in
    let p = problem c.args.checked.now c.args.policy.now in
    let b = board_in c.args.checked.now c.args.policy.now c.args.state in
    let e = letter_by_kind p b None c.front_kind-kind.result c.args.state.phase c.front_kind-kind.ensures refl c.in-None.ensures in
    record { named = c.requires.scene; judged = (λ z. absurd (cc), λ v. absurd (violates_not p b e v)); few = c.requires.few; below = c.requires.below }

pub returns-in_ok-word-in-Some-clause-board : goal.returns-in_ok-word-in-Some-clause-board
returns-in_ok-word-in-Some-clause-board c =
    let pol = policy_of c.args.policy.now in
    let p = problem c.args.checked.now c.args.policy.now in
    let s = scene c.args.checked.now c.args.policy.now in
    let x = c.in-Some.letter in
    let b = board_in c.args.checked.now c.args.policy.now (record c.args.state { word = c.in_ok-word-in-Some.word }) in
    let e = letter_by_kind p b (Some x) c.front_kind-kind.result c.args.state.phase c.front_kind-kind.ensures refl c.in-Some.ensures in
    let q = violates_where p b x e in
    let same = c.in_ok-word-in-Some.ensures.same in
    let bad = c.in_ok-word-in-Some.ensures.bad in
    record {
      named = c.requires.scene;
      judged = (λ z. q.0 (subst (λ w. IsBad pol (w ++ x ∷ [])) (sym same) (bad.0 z)), λ v. bad.1 (subst (λ w. IsBad pol (w ++ x ∷ [])) same (q.1 v)));
      few = c.requires.few;
      below = c.requires.below;
    }
