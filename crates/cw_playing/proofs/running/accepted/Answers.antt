use Rattle.std.proofs.Common.{inl, inr, false, arith}
use Rattle.std.proofs.lemmas.Result.{err_from_is_err_and}
use Rattle.cw_rights.specs.Policies.{policy_of}
use Rattle.cw_text.proofs.Few.{moves_few}
use Rattle.cw_stages.specs.Games.{WhereWovenFits}
use Rattle.cw_stages.specs.Stops.{file_in}
use Rattle.cw_stages.proofs.Answering.{weaker}
use Rattle.cw_playing.specs.Running.{AfterPolicy, IsRunShown}
use Rattle.cw_playing.proofs.running.accepted.Goals as goal

pub returns-in_err-reading-clause-due : goal.returns-in_err-reading-clause-due
returns-in_err-reading-clause-due g c =
    let p = err_from_is_err_and c.from_residual.result c.from_residual.ensures.1 in
    rw (p.1, p.2) (λ due r. inl (c.in_err-reading.ensures.stop due r))

pub returns-in_err-moves-clause-due : goal.returns-in_err-moves-clause-due
returns-in_err-moves-clause-due g c =
    let whole = policy_of c.args.policy.now in
    let parts = c.args.parts.now in
    let p = err_from_is_err_and c.from_residual-in_err-moves.result c.from_residual-in_err-moves.ensures.1 in
    rw (p.1, p.2) (λ due r.
    inr (parts.source.items, file_in c.in_ok-reading.reading, parts.table, c.in_ok-reading.ensures.read, inl (c.in_err-moves.ensures.stop whole parts.source.items due r)))

pub fitted-requires-clause-tape : goal.fitted-requires-clause-tape
fitted-requires-clause-tape g c = rw c.deref.ensures.value (omega (arith, c.requires.short, moves_few false c.args.tape.now c.in_ok-moves.moves.items c.in_ok-moves.ensures.moves))

pub returns-clause-due : goal.returns-clause-due
returns-clause-due g c =
    let whole = policy_of c.args.policy.now in
    let parts = c.args.parts.now in
    let source = parts.source.items in
    let file = file_in c.in_ok-reading.reading in
    let moves = c.in_ok-moves.moves.items in
    let due = rw (c.in_ok-reading.ensures.policy, c.in_ok-reading.ensures.source, c.deref.ensures.value) at c.fitted.ensures.due in
    weaker whole source (WhereWovenFits (IsRunShown source whole file parts.table moves) source whole file) (AfterPolicy parts.text.now c.args.tape.now whole) c.fitted.result
    (λ due h. inr (source, file, parts.table, c.in_ok-reading.ensures.read, inr (moves, c.in_ok-moves.ensures.moves, h))) due
