use Rattle.std.proofs.Common.{inr, inl}
use Rattle.std.proofs.lemmas.Result.{err_from_is_err_and}
use Rattle.cw_rights.specs.Policies.{policy_of}
use Rattle.cw_stages.specs.Stops.{file_in}
use Rattle.cw_stages.proofs.Answering.{weaker}
use Rattle.cw_checking.specs.Checking.{AfterPolicy, AfterWoven}
use Rattle.cw_checking.proofs.checking.accepted.Goals as goal

pub returns-in_err-reading-clause-due : goal.returns-in_err-reading-clause-due
returns-in_err-reading-clause-due g c =
    let p = err_from_is_err_and c.from_residual.result c.from_residual.ensures.1 in
    rw (p.1, p.2) (λ due r. inl (c.in_err-reading.ensures.stop due r))

pub returns-clause-due : goal.returns-clause-due
returns-clause-due g c =
    let whole = policy_of c.args.policy.now in
    let parts = c.args.parts.now in
    let source = parts.source.items in
    let file = file_in c.in_ok-reading.reading in
    let due = rw (c.in_ok-reading.ensures.policy, c.in_ok-reading.ensures.source) at c.fitted-text.ensures.due in
    weaker whole source (AfterWoven source whole file parts.table) (AfterPolicy parts.text.now whole) c.fitted-text.result
    (λ due h. inr (source, file, parts.table, c.in_ok-reading.ensures.read, h)) due
