use Rattle.std.proofs.Common.{inr, subst, inl}
use Rattle.std.proofs.lemmas.Result.{err_from_is_err_and}
use Rattle.cw_rights.specs.Policies.{policy_of}
use Rattle.cw_source.specs.Read.{ReadsAs}
use Rattle.cw_stages.specs.Reading.{WithSource}
use Rattle.cw_stages.specs.Stops.{file_in}
use Rattle.cw_stages.proofs.Answering.{weaker}
use Rattle.cw_checking.specs.Refuting.{AfterPair}
use Rattle.cw_checking.proofs.refuting.read.Goals as goal

pub returns-in_err-reading-clause-due : goal.returns-in_err-reading-clause-due
returns-in_err-reading-clause-due g c =
    let p = err_from_is_err_and c.from_residual.result c.from_residual.ensures.1 in
    rw (p.1, p.2) (λ due r. inl (c.in_err-reading.ensures.stop due r))

pub returns-clause-due : goal.returns-clause-due
returns-clause-due g c =
    let whole = policy_of c.args.policy.now in
    let source = c.args.source.now in
    let text = c.args.text.now in
    let file = file_in c.in_ok-reading.reading in
    let reads = subst (λ s. ReadsAs s file) c.in_ok-reading.ensures.source c.in_ok-reading.ensures.is.reads in
    let due = rw (c.in_ok-reading.ensures.policy, c.in_ok-reading.ensures.source) at c.spelled.ensures.due in
    weaker whole source (AfterPair source text whole file) (WithSource (AfterPair source text whole) source whole) c.spelled.result
    (λ due h. inr (file, reads, c.in_ok-reading.ensures.descriptors, h)) due
