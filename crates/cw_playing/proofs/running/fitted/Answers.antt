use Rattle.std.proofs.Common.{inl, inr, refl, subst}
use Rattle.std.proofs.lemmas.Result.{err_from_is_err_and}
use Rattle.cw_rights.specs.Policies.{PlainPolicy, policy_of}
use Rattle.cw_resolve.specs.Scenes.{names_of}
use Rattle.cw_source.proofs.Runnable.{runnable}
use Rattle.cw_source_laws.proofs.Opening.{read_programs_assign}
use Rattle.cw_game.specs.Conditions.{table_fault}
use Rattle.cw_product.specs.Product.{game_of}
use Rattle.cw_run.specs.Woven.{end_of}
use Rattle.cw_stages.specs.Stops.{file_in, source_of, told_of, whole_of}
use Rattle.cw_stages.proofs.Checks.{failing}
use Rattle.cw_stages.proofs.Made.{graph_over}
use Rattle.cw_playing.specs.Running.{IsRunTold}
use Rattle.cw_playing.proofs.Shown.{run_is_told}
use Rattle.cw_playing.proofs.running.fitted.Goals as goal

pub returns-in_err-fits-clause-due : goal.returns-in_err-fits-clause-due
returns-in_err-fits-clause-due g c =
    let p = err_from_is_err_and c.from_residual.result c.from_residual.ensures.1 in
    rw (p.1, p.2) (λ due r. inl (c.in_err-fits.ensures.stop due r))

pub returns-in_err-game-clause-due : goal.returns-in_err-game-clause-due
returns-in_err-game-clause-due g c =
    let p = err_from_is_err_and c.from_residual-in_err-game.result c.from_residual-in_err-game.ensures.1 in
    rw (p.1, p.2) (λ due r. inr (c.in_ok-fits.ensures.fits, c.args.graph.now, c.requires.graph, inl (c.in_err-game.ensures.stop due r)))

pub run_woven-requires-clause-valid : goal.run_woven-requires-clause-valid
run_woven-requires-clause-valid g c = c.in_ok-game.ensures.made.valid

pub run_woven-requires-clause-lists : goal.run_woven-requires-clause-lists
run_woven-requires-clause-lists g c = c.in_ok-game.ensures.made.lists

pub run_woven-requires-clause-drawn : goal.run_woven-requires-clause-drawn
run_woven-requires-clause-drawn g c = graph_over c.in_ok-game.ensures.game c.requires.graph

pub run_woven-requires-clause-runnable : goal.run_woven-requires-clause-runnable
run_woven-requires-clause-runnable g c =
    runnable (names_of (policy_of c.in_ok-game.game.states.policy)) (source_of c.args.reading.now) (file_in c.args.reading.now) c.requires.is.reads

pub run_woven-requires-clause-assigns : goal.run_woven-requires-clause-assigns
run_woven-requires-clause-assigns g c = read_programs_assign (source_of c.args.reading.now) (file_in c.args.reading.now) c.requires.is.reads

pub returns-in-Ok-clause-due : goal.returns-in-Ok-clause-due
returns-in-Ok-clause-due g c =
    let source = source_of c.args.reading.now in
    let file = file_in c.args.reading.now in
    let table = c.args.table.now in
    let tape = c.args.tape.now in
    let held = c.in_ok-game.game in
    let made = c.in_ok-game.ensures in
    let due = told_of c.run_told.result in
    let told = run_is_told source (policy_of held.states.policy) file table tape (end_of c.in_ok-end-in-Ok.end) c.begin-writer.result.text c.run_woven.new.writer.text due
    c.begin-writer.ensures.text c.in_ok-end-in-Ok.ensures.run c.run_told.ensures.due in
    let run = subst (λ (p : PlainPolicy). IsRunTold source p file table tape due) made.game.policy_is told in
    inr (c.in_ok-fits.ensures.fits, c.args.graph.now, c.requires.graph, inr (held, made.game, made.made, made.is_game, inl (c.in-Ok.ensures.good.0 refl, run)))

pub returns-clause-due : goal.returns-clause-due
returns-clause-due g c =
    let table = c.args.table.now in
    let held = c.in_ok-game.game in
    let made = c.in_ok-game.ensures in
    let bad = failing (game_of held) table (told_of c.tell_row.result) c.in-Err.bad c.tell_row.ensures.due (table_fault (game_of held) table) refl c.in-Err.ensures.fault in
    inr (c.in_ok-fits.ensures.fits, c.args.graph.now, c.requires.graph, inr (held, made.game, made.made, made.is_game, inr bad))
