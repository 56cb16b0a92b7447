use Rattle.std.proofs.Common.{inl, inr, map, arith}
use Rattle.std.proofs.lemmas.Result.{err_from_is_err_and}
use Rattle.cw_rights.specs.Policies.{policy_of}
use Rattle.cw_procs.specs.Played.{entry_of}
use Rattle.cw_stages.specs.Games.{WhereWovenFits}
use Rattle.cw_stages.specs.Stops.{file_in}
use Rattle.cw_stages.proofs.Answering.{weaker}
use Rattle.cw_worlding.specs.Worlding.{AfterPolicy, IsWorldShown}
use Rattle.cw_worlding.proofs.Shown.{steps_few}
use Rattle.cw_worlding.proofs.worlding.accepted.Goals as goal

pub returns-in_err-reading-clause-due : goal.returns-in_err-reading-clause-due
returns-in_err-reading-clause-due g c =
    let p = err_from_is_err_and c.from_residual.result c.from_residual.ensures.1 in
    rw (p.1, p.2) (λ due r. inl (c.in_err-reading.ensures.stop due r))

pub returns-in_err-list-clause-due : goal.returns-in_err-list-clause-due
returns-in_err-list-clause-due g c =
    let whole = policy_of c.args.policy.now in
    let parts = c.args.parts.now in
    let p = err_from_is_err_and c.from_residual-in_err-list.result c.from_residual-in_err-list.ensures.1 in
    rw (p.1, p.2) (λ due r.
    inr (parts.source.items, file_in c.in_ok-reading.reading, parts.table, c.in_ok-reading.ensures.read, inl (c.in_err-list.ensures.stop whole parts.source.items due r)))

pub fitted-requires-clause-steps : goal.fitted-requires-clause-steps
fitted-requires-clause-steps g c = rw c.deref.ensures.value (omega (arith, c.requires.short, steps_few c.args.steps.now c.in_ok-list.list.items c.in_ok-list.ensures.spells))

pub returns-clause-due : goal.returns-clause-due
returns-clause-due g c =
    let whole = policy_of c.args.policy.now in
    let parts = c.args.parts.now in
    let source = parts.source.items in
    let file = file_in c.in_ok-reading.reading in
    let steps = c.in_ok-list.list.items in
    let list = map entry_of steps in
    let due = rw (c.in_ok-reading.ensures.policy, c.in_ok-reading.ensures.source, c.deref.ensures.value) at c.fitted.ensures.due in
    weaker whole source (WhereWovenFits (IsWorldShown source whole file parts.table list) source whole file) (AfterPolicy parts.text.now c.args.steps.now whole) c.fitted.result
    (λ due h. inr (source, file, parts.table, c.in_ok-reading.ensures.read, inr (steps, c.in_ok-list.ensures.spells, h))) due
