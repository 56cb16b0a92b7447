use Rattle.std.proofs.Common.{inr}
use Rattle.cw_rights.specs.Policies.{policy_of}
use Rattle.cw_syntax.specs.Trees.{file_of}
use Rattle.cw_product.specs.Product.{game_of}
use Rattle.cw_stages.specs.Counting.{IsCounted}
use Rattle.cw_stages.specs.Stops.{Nothing}
use Rattle.cw_stages.specs.Verdicts.{AfterCells, AfterGame, HasFewCells}
use Rattle.cw_stages.proofs.Answering.{wider}
use Rattle.cw_stages.proofs.verdict.judge.Goals as goal

pub returns-in-Ok-clause-due : goal.returns-in-Ok-clause-due
returns-in-Ok-clause-due g c =
    let source = c.args.checked.now.source.now in
    let file = file_of c.args.checked.now.program in
    let game = c.args.game.now in
    let whole = policy_of game.states.policy in
    let few : HasFewCells (game_of game) = (c.in-Ok.solution.contexts, c.in-Ok.ensures.contexts, c.in-Ok.ensures.few) in
    wider whole source (λ numbers. AfterCells (IsCounted numbers whole source file) (game_of game)) (λ numbers. AfterGame (IsCounted numbers whole source file) (game_of game))
    (AfterCells Nothing (game_of game)) (AfterGame Nothing (game_of game)) c.told-verdict.result (λ numbers due h. inr (few, h)) (λ due h. inr (few, h)) c.told-verdict.ensures.due
