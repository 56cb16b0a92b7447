use Rattle.std.proofs.Common.{inl, inr}
use Rattle.std.proofs.lemmas.Result.{err_from_is_err_and}
use Rattle.cw_model.specs.Boards.{problem_of}
use Rattle.cw_product.specs.Product.{game_of}
use Rattle.cw_stages.specs.Stops.{file_in, source_of, whole_of}
use Rattle.cw_stages.proofs.Answering.{weaker}
use Rattle.cw_auditing.specs.Auditing.{AfterPair, IsAuditedBy}
use Rattle.cw_auditing.proofs.Audited.{audited_for}
use Rattle.cw_auditing.proofs.Reaudited.{functions_many}
use Rattle.cw_auditing.proofs.auditing.fitted.Goals as goal

pub returns-in_err-fits-clause-due : goal.returns-in_err-fits-clause-due
returns-in_err-fits-clause-due g c =
    let p = err_from_is_err_and c.from_residual.result c.from_residual.ensures.1 in
    rw (p.1, p.2) (λ due r. inl (c.in_err-fits.ensures.stop due r))

pub returns-in_err-graph-clause-due : goal.returns-in_err-graph-clause-due
returns-in_err-graph-clause-due g c =
    let p = err_from_is_err_and c.from_residual-in_err-graph.result c.from_residual-in_err-graph.ensures.1 in
    rw (p.1, p.2) (λ due r. inr (c.in_ok-fits.ensures.fits, inl (c.in_err-graph.ensures.stop due r)))

pub returns-in_err-game-clause-due : goal.returns-in_err-game-clause-due
returns-in_err-game-clause-due g c =
    let p = err_from_is_err_and c.from_residual-in_err-game.result c.from_residual-in_err-game.ensures.1 in
    let drawn = c.in_ok-graph.ensures in
    rw (p.1, p.2) (λ due r. inr (c.in_ok-fits.ensures.fits, inr (drawn.few, c.in_ok-graph.graph, drawn.graph, inl (c.in_err-game.ensures.stop due r))))

pub audited-requires : goal.audited-requires
audited-requires g c =
    let p = problem_of (whole_of c.args.reading.now) (source_of c.args.reading.now) (file_in c.args.reading.now) in
    record { program = (p, c.in_ok-game.ensures.is_game) }

pub returns-clause-due : goal.returns-clause-due
returns-clause-due g c =
    let whole = whole_of c.args.reading.now in
    let source = source_of c.args.reading.now in
    let file = file_in c.args.reading.now in
    let p = problem_of whole source file in
    let held = c.in_ok-game.game in
    let made = c.in_ok-game.ensures in
    let drawn = c.in_ok-graph.ensures in
    let many = functions_many source whole file c.in_ok-graph.graph held drawn.graph made.game in
    weaker whole source (IsAuditedBy (game_of held) _) (AfterPair source whole file) c.audited.result
    (λ due h.
    inr (
      c.in_ok-fits.ensures.fits,
      inr (drawn.few, c.in_ok-graph.graph, drawn.graph, inr (held, made.game, made.made, made.is_game, audited_for p (game_of held) _ _ due made.is_game many h)),
    ))
    (c.audited.ensures.due whole source)
