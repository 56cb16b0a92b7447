use Rattle.std.proofs.Common.{inl, inr}
use Rattle.std.proofs.lemmas.Result.{err_from_is_err_and}
use Rattle.cw_rights.specs.Policies.{policy_of}
use Rattle.cw_value.specs.Shown.{answers_of}
use Rattle.cw_stages.specs.Stops.{file_in}
use Rattle.cw_stages.proofs.Answering.{weaker}
use Rattle.cw_valuing.specs.Refusals.{WhereFormed}
use Rattle.cw_valuing.specs.Valuing.{AfterPolicy, IsValuesShown}
use Rattle.cw_valuing.proofs.valuing.accepted.Goals as goal

pub returns-in_err-reading-clause-due : goal.returns-in_err-reading-clause-due
returns-in_err-reading-clause-due g c =
    let p = err_from_is_err_and c.from_residual.result c.from_residual.ensures.1 in
    rw (p.1, p.2) (λ due r. inl (c.in_err-reading.ensures.stop due r))

pub returns-in_err-given-clause-due : goal.returns-in_err-given-clause-due
returns-in_err-given-clause-due g c =
    let whole = policy_of c.args.policy.now in
    let parts = c.args.parts.now in
    let p = err_from_is_err_and c.from_residual-in_err-given.result c.from_residual-in_err-given.ensures.1 in
    rw (p.1, p.2) (λ due r.
    inr (parts.source.items, file_in c.in_ok-reading.reading, parts.table, c.in_ok-reading.ensures.read, inl (c.in_err-given.ensures.stop whole parts.source.items due r)))

pub returns-clause-due : goal.returns-clause-due
returns-clause-due g c =
    let whole = policy_of c.args.policy.now in
    let parts = c.args.parts.now in
    let source = parts.source.items in
    let file = file_in c.in_ok-reading.reading in
    let answers = answers_of c.in_ok-given.given in
    let due = rw (c.in_ok-reading.ensures.policy, c.in_ok-reading.ensures.source) at c.fitted.ensures.due in
    weaker whole source (WhereFormed (IsValuesShown source whole file parts.table answers) source whole file) (AfterPolicy parts.text.now c.args.answers.now whole) c.fitted.result
    (λ due h. inr (source, file, parts.table, c.in_ok-reading.ensures.read, inr (answers, c.in_ok-given.ensures.spells, h))) due
