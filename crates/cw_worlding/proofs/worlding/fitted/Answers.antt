use Rattle.std.proofs.Common.{map, inl, inr, subst}
use Rattle.std.proofs.lemmas.Result.{err_from_is_err_and}
use Rattle.cw_rights.specs.Policies.{PlainPolicy}
use Rattle.cw_product.specs.Product.{game_of}
use Rattle.cw_procs.specs.Played.{entry_of}
use Rattle.cw_stages.specs.Games.{WhereWovenFits}
use Rattle.cw_stages.specs.Stops.{file_in, source_of, whole_of, Answers}
use Rattle.cw_stages.proofs.Answering.{weaker}
use Rattle.cw_stages.proofs.Made.{graph_over}
use Rattle.cw_worlding.specs.Held.{IsWorldShownBy}
use Rattle.cw_worlding.specs.Worlding.{IsWorldShown}
use Rattle.cw_worlding.proofs.Shown.{world_shown_for}
use Rattle.cw_worlding.proofs.worlding.fitted.Goals as goal

pub returns-in_err-fits-clause-due : goal.returns-in_err-fits-clause-due
returns-in_err-fits-clause-due g c =
    let p = err_from_is_err_and c.from_residual.result c.from_residual.ensures.1 in
    rw (p.1, p.2) (λ due r. inl (c.in_err-fits.ensures.stop due r))

pub returns-in_err-game-clause-due : goal.returns-in_err-game-clause-due
returns-in_err-game-clause-due g c =
    let p = err_from_is_err_and c.from_residual-in_err-game.result c.from_residual-in_err-game.ensures.1 in
    rw (p.1, p.2) (λ due r. inr (c.in_ok-fits.ensures.fits, c.args.graph.now, c.requires.graph, inl (c.in_err-game.ensures.stop due r)))

pub judged-requires-clause-valid : goal.judged-requires-clause-valid
judged-requires-clause-valid g c = c.in_ok-game.ensures.made.valid

pub judged-requires-clause-lists : goal.judged-requires-clause-lists
judged-requires-clause-lists g c = c.in_ok-game.ensures.made.lists

pub judged-requires-clause-graph : goal.judged-requires-clause-graph
judged-requires-clause-graph g c = graph_over c.in_ok-game.ensures.game c.requires.graph

pub returns-clause-due : goal.returns-clause-due
returns-clause-due g c =
    let whole = whole_of c.args.reading.now in
    let source = source_of c.args.reading.now in
    let file = file_in c.args.reading.now in
    let held = c.in_ok-game.game in
    let made = c.in_ok-game.ensures in
    let table = c.args.table.now in
    let tape = map entry_of c.args.steps.now in
    let due = subst (λ (p : PlainPolicy). Answers p source (IsWorldShownBy source p file table tape (game_of held)) c.judged.result) made.game.policy_is c.judged.ensures.due in
    weaker whole source (IsWorldShownBy source whole file table tape (game_of held)) (WhereWovenFits (IsWorldShown source whole file table tape) source whole file) c.judged.result
    (λ due h. inr (c.in_ok-fits.ensures.fits, c.args.graph.now, c.requires.graph, inr (held, made.game, made.made, made.is_game, world_shown_for source whole file table tape (game_of held) due h))) due
