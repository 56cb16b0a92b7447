use Rattle.std.proofs.Common.{inl, inr}
use Rattle.std.proofs.lemmas.Result.{err_from_is_err_and}
use Rattle.cw_certs.specs.Strategies.{strategy_of}
use Rattle.cw_model.specs.Boards.{problem_of}
use Rattle.cw_product.specs.Product.{game_of}
use Rattle.cw_stages.specs.Stops.{file_in, source_of, told_of, whole_of}
use Rattle.cw_checking.proofs.Judging.{judged_for}
use Rattle.cw_checking.proofs.refuting.spelled.Goals as goal

pub returns-in_err-strategy-clause-due : goal.returns-in_err-strategy-clause-due
returns-in_err-strategy-clause-due g c =
    let p = err_from_is_err_and c.from_residual.result c.from_residual.ensures.1 in
    rw (p.1, p.2) (λ due r. inl (c.in_err-strategy.ensures.stop (whole_of c.args.reading.now) (source_of c.args.reading.now) due r))

pub returns-in_err-fits-clause-due : goal.returns-in_err-fits-clause-due
returns-in_err-fits-clause-due g c =
    let p = err_from_is_err_and c.from_residual-in_err-fits.result c.from_residual-in_err-fits.ensures.1 in
    rw (p.1, p.2) (λ due r. inr (strategy_of c.in_ok-strategy.strategy, c.in_ok-strategy.ensures.spells, inl (c.in_err-fits.ensures.stop due r)))

pub returns-in_err-graph-clause-due : goal.returns-in_err-graph-clause-due
returns-in_err-graph-clause-due g c =
    let p = err_from_is_err_and c.from_residual-in_err-graph.result c.from_residual-in_err-graph.ensures.1 in
    rw (p.1, p.2) (λ due r. inr (strategy_of c.in_ok-strategy.strategy, c.in_ok-strategy.ensures.spells, inr (c.in_ok-fits.ensures.fits, inl (c.in_err-graph.ensures.stop due r))))

pub returns-in_err-game-clause-due : goal.returns-in_err-game-clause-due
returns-in_err-game-clause-due g c =
    let p = err_from_is_err_and c.from_residual-in_err-game.result c.from_residual-in_err-game.ensures.1 in
    let drawn = c.in_ok-graph.ensures in
    rw (p.1, p.2) (λ due r.
    inr (
      strategy_of c.in_ok-strategy.strategy,
      c.in_ok-strategy.ensures.spells,
      inr (c.in_ok-fits.ensures.fits, inr (drawn.few, c.in_ok-graph.graph, drawn.graph, inl (c.in_err-game.ensures.stop due r))),
    ))

pub returns-clause-due : goal.returns-clause-due
returns-clause-due g c =
    let p = problem_of (whole_of c.args.reading.now) (source_of c.args.reading.now) (file_in c.args.reading.now) in
    let strategy = strategy_of c.in_ok-strategy.strategy in
    let held = c.in_ok-game.game in
    let made = c.in_ok-game.ensures in
    let drawn = c.in_ok-graph.ensures in
    let due = judged_for p (game_of held) strategy (told_of c.judged.result) made.is_game c.judged.ensures.due in
    inr (
      strategy,
      c.in_ok-strategy.ensures.spells,
      inr (c.in_ok-fits.ensures.fits, inr (drawn.few, c.in_ok-graph.graph, drawn.graph, inr (held, made.game, made.made, made.is_game, due))),
    )
