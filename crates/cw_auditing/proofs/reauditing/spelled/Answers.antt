use Rattle.std.proofs.Common.{inl, inr}
use Rattle.std.proofs.lemmas.Result.{err_from_is_err_and}
use Rattle.cw_model.specs.Boards.{problem_of}
use Rattle.cw_product.specs.Product.{game_of}
use Rattle.cw_audit_table.specs.Tables.{audit_of}
use Rattle.cw_stages.specs.Stops.{file_in, source_of, whole_of}
use Rattle.cw_stages.proofs.Answering.{weaker}
use Rattle.cw_auditing.specs.Reauditing.{AfterPair, IsReauditedBy}
use Rattle.cw_auditing.proofs.Reaudited.{functions_many, reaudited_for}
use Rattle.cw_auditing.proofs.reauditing.spelled.Goals as goal

pub returns-in_err-audit-clause-due : goal.returns-in_err-audit-clause-due
returns-in_err-audit-clause-due g c =
    let p = err_from_is_err_and c.from_residual.result c.from_residual.ensures.1 in
    rw (p.1, p.2) (λ due r. inl (c.in_err-audit.ensures.stop (whole_of c.args.reading.now) (source_of c.args.reading.now) due r))

pub returns-in_err-fits-clause-due : goal.returns-in_err-fits-clause-due
returns-in_err-fits-clause-due g c =
    let p = err_from_is_err_and c.from_residual-in_err-fits.result c.from_residual-in_err-fits.ensures.1 in
    rw (p.1, p.2) (λ due r. inr (audit_of c.in_ok-audit.audit, c.in_ok-audit.ensures.spells, inl (c.in_err-fits.ensures.stop due r)))

pub returns-in_err-graph-clause-due : goal.returns-in_err-graph-clause-due
returns-in_err-graph-clause-due g c =
    let p = err_from_is_err_and c.from_residual-in_err-graph.result c.from_residual-in_err-graph.ensures.1 in
    rw (p.1, p.2) (λ due r. inr (audit_of c.in_ok-audit.audit, c.in_ok-audit.ensures.spells, inr (c.in_ok-fits.ensures.fits, inl (c.in_err-graph.ensures.stop due r))))

pub returns-in_err-game-clause-due : goal.returns-in_err-game-clause-due
returns-in_err-game-clause-due g c =
    let p = err_from_is_err_and c.from_residual-in_err-game.result c.from_residual-in_err-game.ensures.1 in
    let drawn = c.in_ok-graph.ensures in
    rw (p.1, p.2) (λ due r.
    inr (
      audit_of c.in_ok-audit.audit,
      c.in_ok-audit.ensures.spells,
      inr (c.in_ok-fits.ensures.fits, inr (drawn.few, c.in_ok-graph.graph, drawn.graph, inl (c.in_err-game.ensures.stop due r))),
    ))

pub returns-clause-due : goal.returns-clause-due
returns-clause-due g c =
    let whole = whole_of c.args.reading.now in
    let source = source_of c.args.reading.now in
    let file = file_in c.args.reading.now in
    let p = problem_of whole source file in
    let audit = audit_of c.in_ok-audit.audit in
    let held = c.in_ok-game.game in
    let made = c.in_ok-game.ensures in
    let drawn = c.in_ok-graph.ensures in
    let many = functions_many source whole file c.in_ok-graph.graph held drawn.graph made.game in
    weaker whole source (IsReauditedBy (game_of held) _ audit) (AfterPair source c.args.text.now whole file) c.judged.result
    (λ due h.
    inr (
      audit,
      c.in_ok-audit.ensures.spells,
      inr (
        c.in_ok-fits.ensures.fits,
        inr (drawn.few, c.in_ok-graph.graph, drawn.graph, inr (held, made.game, made.made, made.is_game, reaudited_for p (game_of held) _ _ audit due made.is_game many h)),
      ),
    ))
    (c.judged.ensures.due whole source)
