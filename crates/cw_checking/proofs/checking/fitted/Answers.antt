use Rattle.std.proofs.Common.{inr, inl}
use Rattle.std.proofs.lemmas.Result.{err_from_is_err_and}
use Rattle.cw_model.specs.Boards.{problem_of}
use Rattle.cw_product.specs.Product.{game_of}
use Rattle.cw_stages.specs.Stops.{file_in, source_of, told_of, whole_of}
use Rattle.cw_checking.proofs.Checks.{checked_for}
use Rattle.cw_checking.proofs.checking.fitted.Goals as goal

pub returns-in_err-fits-clause-due : goal.returns-in_err-fits-clause-due
returns-in_err-fits-clause-due g c =
    let p = err_from_is_err_and c.from_residual.result c.from_residual.ensures.1 in
    rw (p.1, p.2) (λ due r. inl (c.in_err-fits.ensures.stop due r))

pub returns-in_err-game-clause-due : goal.returns-in_err-game-clause-due
returns-in_err-game-clause-due g c =
    let p = err_from_is_err_and c.from_residual-in_err-game.result c.from_residual-in_err-game.ensures.1 in
    rw (p.1, p.2) (λ due r. inr (c.in_ok-fits.ensures.fits, c.args.graph.now, c.requires.graph, inl (c.in_err-game.ensures.stop due r)))

pub returns-clause-due : goal.returns-clause-due
returns-clause-due g c =
    let p = problem_of (whole_of c.args.reading.now) (source_of c.args.reading.now) (file_in c.args.reading.now) in
    let held = c.in_ok-game.game in
    let made = c.in_ok-game.ensures in
    let due = checked_for p (game_of held) c.args.table.now (told_of c.judged.result) made.is_game c.requires.is.valid.few_limits c.judged.ensures.due in
    inr (c.in_ok-fits.ensures.fits, c.args.graph.now, c.requires.graph, inr (held, made.game, made.made, made.is_game, due))
