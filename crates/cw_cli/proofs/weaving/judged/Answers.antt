use Rattle.std.proofs.Common.{inl, inr, sym, subst}
use Rattle.std.proofs.lemmas.Result.{err_from_is_err_and}
use Rattle.cw_rights.specs.Policies.{PlainPolicy}
use Rattle.cw_model.specs.Boards.{problem_of}
use Rattle.cw_game.specs.Standing.{IsGameOf}
use Rattle.cw_product.specs.Product.{game_of}
use Rattle.cw_stages.specs.Counting.{IsCounted}
use Rattle.cw_stages.specs.Stops.{file_in, source_of, whole_of, Decides, Nothing}
use Rattle.cw_stages.specs.Verdicts.{AfterGame}
use Rattle.cw_stages.proofs.Answering.{wider}
use Rattle.cw_stages.proofs.Made.{graph_over}
use Rattle.cw_cli.specs.Weaving.{AfterPair}
use Rattle.cw_cli.proofs.Counted.{behind_game}
use Rattle.cw_cli.proofs.weaving.judged.Goals as goal

pub returns-in_err-graph-clause-due : goal.returns-in_err-graph-clause-due
returns-in_err-graph-clause-due g c =
    let p = err_from_is_err_and c.from_residual.result c.from_residual.ensures.1 in
    rw (p.1, p.2) c.in_err-graph.ensures.stop

pub returns-in_err-game-clause-due : goal.returns-in_err-game-clause-due
returns-in_err-game-clause-due g c =
    let p = err_from_is_err_and c.from_residual-in_err-game.result c.from_residual-in_err-game.ensures.1 in
    let drawn = c.in_ok-graph.ensures in
    rw (p.1, p.2) (λ due r.
    inr (drawn.fits, inr (drawn.none, inr (drawn.few, c.in_ok-graph.graph, drawn.graph, inl (c.in_err-game.ensures.stop due r)))))

pub judge-requires-clause-graph : goal.judge-requires-clause-graph
judge-requires-clause-graph g c = graph_over c.in_ok-game.ensures.game c.in_ok-graph.ensures.graph

pub judge-requires-clause-is_game : goal.judge-requires-clause-is_game
judge-requires-clause-is_game g c =
    subst (λ (p : PlainPolicy). IsGameOf (problem_of p (source_of c.args.reading.now) (file_in c.args.reading.now)) (game_of c.in_ok-game.game))
    (sym c.in_ok-game.ensures.game.policy_is) c.in_ok-game.ensures.is_game

pub returns-clause-due : goal.returns-clause-due
returns-clause-due g c =
    let whole = whole_of c.args.reading.now in
    let source = source_of c.args.reading.now in
    let file = file_in c.args.reading.now in
    let held = c.in_ok-game.game in
    let made = c.in_ok-game.ensures in
    let drawn = c.in_ok-graph.ensures in
    let due = subst (λ (p : PlainPolicy). Decides p source (λ numbers. AfterGame (IsCounted numbers p source file) (game_of held)) (AfterGame Nothing (game_of held)) c.judge.result)
    made.game.policy_is c.judge.ensures.due in
    wider whole source (λ numbers. AfterGame (IsCounted numbers whole source file) (game_of held)) (λ numbers. AfterPair (IsCounted numbers whole source file) source whole file)
    (AfterGame Nothing (game_of held)) (AfterPair Nothing source whole file) c.judge.result
    (λ numbers due h. behind_game (IsCounted numbers whole source file) source whole file due drawn.fits drawn.none drawn.few c.in_ok-graph.graph drawn.graph held made.game made.made made.is_game h)
    (λ due h. behind_game Nothing source whole file due drawn.fits drawn.none drawn.few c.in_ok-graph.graph drawn.graph held made.game made.made made.is_game h) due
