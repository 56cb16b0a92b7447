use Rattle.std.proofs.Common.{ap, inl, inr, sym, subst}
use Rattle.std.proofs.lemmas.Result.{err_from_is_err_and}
use Rattle.cw_rights.specs.Policies.{PlainPolicy, policy_of}
use Rattle.cw_resolve.specs.Scenes.{names_of}
use Rattle.cw_certs.specs.Strategies.{strategy_of}
use Rattle.cw_source.proofs.Runnable.{runnable}
use Rattle.cw_source_laws.proofs.Opening.{read_programs_assign}
use Rattle.cw_points.specs.Graphs.{IsGraph}
use Rattle.cw_echeck.specs.Checks.{fault_of}
use Rattle.cw_product.specs.Product.{game_of}
use Rattle.cw_trace.specs.Labels.{name_lists}
use Rattle.cw_stages.specs.Stops.{file_in, source_of, told_of, whole_of}
use Rattle.cw_stages.proofs.Made.{graph_over}
use Rattle.cw_playing.specs.Playing.{IsPlayTold}
use Rattle.cw_playing.proofs.Shown.{play_is_told}
use Rattle.cw_playing.proofs.playing.fitted.Goals as goal

pub returns-in_err-fits-clause-due : goal.returns-in_err-fits-clause-due
returns-in_err-fits-clause-due g c =
    let p = err_from_is_err_and c.from_residual.result c.from_residual.ensures.1 in
    rw (p.1, p.2) (λ due r. inl (c.in_err-fits.ensures.stop due r))

pub returns-in_err-graph-clause-due : goal.returns-in_err-graph-clause-due
returns-in_err-graph-clause-due g c =
    let p = err_from_is_err_and c.from_residual-in_err-graph.result c.from_residual-in_err-graph.ensures.1 in
    rw (p.1, p.2) (λ due r. inr (c.in_ok-fits.ensures.fits, inl (c.in_err-graph.ensures.stop due r)))

pub returns-in_err-game-clause-due : goal.returns-in_err-game-clause-due
returns-in_err-game-clause-due g c =
    let p = err_from_is_err_and c.from_residual-in_err-game.result c.from_residual-in_err-game.ensures.1 in
    let drawn = c.in_ok-graph.ensures in
    rw (p.1, p.2) (λ due r. inr (c.in_ok-fits.ensures.fits, inr (drawn.few, c.in_ok-graph.graph, drawn.graph, inl (c.in_err-game.ensures.stop due r))))

pub play_env-requires-clause-valid : goal.play_env-requires-clause-valid
play_env-requires-clause-valid g c = c.in_ok-game.ensures.made.valid

pub play_env-requires-clause-lists : goal.play_env-requires-clause-lists
play_env-requires-clause-lists g c = c.in_ok-game.ensures.made.lists

pub returns-in-Ok-clause-due : goal.returns-in-Ok-clause-due
returns-in-Ok-clause-due g c =
    let source = source_of c.args.reading.now in
    let file = file_in c.args.reading.now in
    let strategy = strategy_of c.args.strategy.now in
    let tape = c.args.tape.now in
    let held = c.in_ok-game.game in
    let made = c.in_ok-game.ensures in
    let drawn = c.in_ok-graph.ensures in
    let policy = policy_of held.states.policy in
    let graph = graph_over made.game drawn.graph in
    let reads = c.requires.is.reads in
    let played = c.in_ok-end-in-Ok.ensures.play source file graph (runnable (names_of policy) source file reads) (read_programs_assign source file reads) in
    let named = c.in_ok-names-in-Ok.ensures.names (names_of policy) (subst (IsGraph (names_of policy) source file) (sym c.graph.ensures) graph) in
    let due = told_of c.play_told.result in
    let shown = play_is_told source policy file (game_of held) strategy tape (policy_of c.policy.result.now) (name_lists c.in_ok-names-in-Ok.names)
    c.in_ok-end-in-Ok.end c.begin-writer.result.text c.play_env.new.writer.text due
    (ap policy_of c.policy.ensures) c.begin-writer.ensures.text named played c.play_told.ensures.due in
    let play = subst (λ (p : PlainPolicy). IsPlayTold source p file (game_of held) strategy tape due) made.game.policy_is shown in
    inr (c.in_ok-fits.ensures.fits, inr (drawn.few, c.in_ok-graph.graph, drawn.graph, inr (held, made.game, made.made, made.is_game, inl (c.in-Ok.ensures.good, play))))

pub returns-clause-due : goal.returns-clause-due
returns-clause-due g c =
    let held = c.in_ok-game.game in
    let made = c.in_ok-game.ensures in
    let drawn = c.in_ok-graph.ensures in
    inr (
      c.in_ok-fits.ensures.fits,
      inr (drawn.few, c.in_ok-graph.graph, drawn.graph, inr (held, made.game, made.made, made.is_game, inr (fault_of c.in-Err.bad, c.in-Err.ensures.fault, c.tell_row.ensures.due))),
    )
