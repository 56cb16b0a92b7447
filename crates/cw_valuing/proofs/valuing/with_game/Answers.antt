use Rattle.std.proofs.Common.{inl, inr, subst, sym}
use Rattle.std.proofs.lemmas.Result.{err_from_is_err_and}
use Rattle.cw_rights.specs.Policies.{PlainPolicy}
use Rattle.cw_callgraph.specs.Fitting.{Fits}
use Rattle.cw_product.specs.Product.{game_of}
use Rattle.cw_value.specs.Shown.{answers_of}
use Rattle.cw_stages.specs.Games.{WithGame}
use Rattle.cw_stages.specs.Stops.{file_in, source_of, whole_of, Answers}
use Rattle.cw_stages.proofs.Answering.{weaker}
use Rattle.cw_stages.proofs.Made.{graph_over}
use Rattle.cw_valuing.specs.Held.{IsValuesShownBy}
use Rattle.cw_valuing.specs.Valuing.{IsValuesShown}
use Rattle.cw_valuing.proofs.Shown.{values_shown_for}
use Rattle.cw_valuing.proofs.valuing.with_game.Goals as goal

pub returns-in_err-game-clause-due : goal.returns-in_err-game-clause-due
returns-in_err-game-clause-due g c =
    let p = err_from_is_err_and c.from_residual.result c.from_residual.ensures.1 in
    rw (p.1, p.2) (λ due r. inl (c.in_err-game.ensures.stop due r))

pub judged-requires-clause-valid : goal.judged-requires-clause-valid
judged-requires-clause-valid g c = c.in_ok-game.ensures.made.valid

pub judged-requires-clause-lists : goal.judged-requires-clause-lists
judged-requires-clause-lists g c = c.in_ok-game.ensures.made.lists

pub judged-requires-clause-graph : goal.judged-requires-clause-graph
judged-requires-clause-graph g c = graph_over c.in_ok-game.ensures.game c.requires.graph

pub judged-requires-clause-fits : goal.judged-requires-clause-fits
judged-requires-clause-fits g c = subst (Fits (source_of c.args.reading.now) (file_in c.args.reading.now)) (sym c.in_ok-game.ensures.game.policy_is) c.requires.fits

pub returns-clause-due : goal.returns-clause-due
returns-clause-due g c =
    let whole = whole_of c.args.reading.now in
    let source = source_of c.args.reading.now in
    let file = file_in c.args.reading.now in
    let held = c.in_ok-game.game in
    let made = c.in_ok-game.ensures in
    let table = c.args.table.now in
    let answers = answers_of c.args.answers.now in
    let due = subst (λ (p : PlainPolicy). Answers p source (IsValuesShownBy source p file table answers (game_of held)) c.judged.result) made.game.policy_is c.judged.ensures.due in
    weaker whole source (IsValuesShownBy source whole file table answers (game_of held)) (WithGame (IsValuesShown source whole file table answers) source whole file c.args.graph.now) c.judged.result
    (λ due h. inr (held, made.game, made.made, made.is_game, values_shown_for source whole file table answers (game_of held) due h)) due
