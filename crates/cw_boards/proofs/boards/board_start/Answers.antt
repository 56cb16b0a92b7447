use Rattle.std.proofs.Common.{arith, sym, subst}
use Rattle.std.proofs.lemmas.Result.{err_from_is_err_and}
use Rattle.cw_model.specs.Boards.{Board}
use Rattle.cw_boards.specs.Held.{scene, problem}
use Rattle.cw_boards.specs.Numbered.{most_seams, StackBelow}
use Rattle.cw_boards.proofs.Below.{frames_below, start_below}
use Rattle.cw_boards.proofs.boards.board_start.Goals as goal

-- the frame of `main` is one of a source that has so few seams
pub judged-requires-clause-below : goal.judged-requires-clause-below
judged-requires-clause-below c =
    let s = scene c.args.checked.now c.args.policy.now in
    let fs = c.args.checked.now.program.functions.items in
    subst (λ (b : Board). StackBelow most_seams b.stack) (sym c.in_ok-state.ensures.start)
    (start_below most_seams (problem c.args.checked.now c.args.policy.now).plan (λ f frame e. frames_below most_seams s fs f frame e (omega (arith, c.in_ok-state.ensures.few))))

pub returns-in_err-state-clause-many : goal.returns-in_err-state-clause-many
returns-in_err-state-clause-many c =
    let p = err_from_is_err_and c.from_residual-in_err-state.result c.from_residual-in_err-state.ensures.1 in
    rw (p.1, p.2) c.in_err-state.ensures.many
