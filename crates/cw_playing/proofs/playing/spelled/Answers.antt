use Rattle.std.proofs.Common.{inl, inr}
use Rattle.std.proofs.lemmas.Result.{err_from_is_err_and}
use Rattle.cw_certs.specs.Strategies.{strategy_of}
use Rattle.cw_stages.specs.Games.{WhereFits}
use Rattle.cw_stages.specs.Stops.{file_in, source_of, whole_of}
use Rattle.cw_stages.proofs.Answering.{weaker}
use Rattle.cw_playing.specs.Playing.{AfterPair, IsShown}
use Rattle.cw_playing.proofs.playing.spelled.Goals as goal

pub returns-in_err-strategy-clause-due : goal.returns-in_err-strategy-clause-due
returns-in_err-strategy-clause-due g c =
    let p = err_from_is_err_and c.from_residual.result c.from_residual.ensures.1 in
    rw (p.1, p.2) (λ due r. inl (c.in_err-strategy.ensures.stop (whole_of c.args.reading.now) (source_of c.args.reading.now) due r))

pub returns-in_err-moves-clause-due : goal.returns-in_err-moves-clause-due
returns-in_err-moves-clause-due g c =
    let p = err_from_is_err_and c.from_residual-in_err-moves.result c.from_residual-in_err-moves.ensures.1 in
    rw (p.1, p.2) (λ due r.
    inr (strategy_of c.in_ok-strategy.strategy, c.in_ok-strategy.ensures.spells, inl (c.in_err-moves.ensures.stop (whole_of c.args.reading.now) (source_of c.args.reading.now) due r)))

pub fitted-requires-clause-tape : goal.fitted-requires-clause-tape
fitted-requires-clause-tape g c = rw c.deref.ensures.value c.in_ok-moves.ensures.moves.may

pub returns-clause-due : goal.returns-clause-due
returns-clause-due g c =
    let whole = whole_of c.args.reading.now in
    let source = source_of c.args.reading.now in
    let file = file_in c.args.reading.now in
    let strategy = strategy_of c.in_ok-strategy.strategy in
    let moves = c.in_ok-moves.moves.items in
    let due = rw c.deref.ensures.value at c.fitted.ensures.due in
    weaker whole source (WhereFits (IsShown source whole file strategy moves) source whole file) (AfterPair source c.args.text.now c.args.tape.now whole file) c.fitted.result
    (λ due h. inr (strategy, c.in_ok-strategy.ensures.spells, inr (moves, c.in_ok-moves.ensures.moves, h))) due
