use Rattle.std.proofs.Common.{subst}
use Rattle.std.proofs.lemmas.Result.{err_from_is_err_and}
use Rattle.cw_rights.specs.Policies.{policy_of}
use Rattle.cw_source.specs.Read.{ReadsAs}
use Rattle.cw_stages.specs.Games.{WhereFits}
use Rattle.cw_stages.specs.Stops.{file_in}
use Rattle.cw_stages.specs.Verdicts.{AfterGame}
use Rattle.cw_stages.proofs.Answering.{weaker}
use Rattle.cw_stages.proofs.Unread.{never_unread}
use Rattle.cw_parting.specs.Parting.{IsParted, OfForm}
use Rattle.cw_parting.proofs.parting.parted.Goals as goal

pub returns-in_err-reading-clause-due : goal.returns-in_err-reading-clause-due
returns-in_err-reading-clause-due g c =
    let p = err_from_is_err_and c.from_residual.result c.from_residual.ensures.1 in
    let read = c.requires.read in
    rw (p.1, p.2) (λ due r. absurd (never_unread c.args.form.now (policy_of c.args.policy.now) read.0 due read.1 read.2 (c.in_err-reading.ensures.stop due r)))

pub returns-clause-due : goal.returns-clause-due
returns-clause-due g c =
    let whole = policy_of c.args.policy.now in
    let form = c.args.form.now in
    let file = file_in c.in_ok-reading.reading in
    let reads = subst (λ s. ReadsAs s file) c.in_ok-reading.ensures.source c.in_ok-reading.ensures.is.reads in
    let due = rw (c.in_ok-reading.ensures.policy, c.in_ok-reading.ensures.source) at c.told-text.ensures.due in
    weaker whole form (WhereFits (AfterGame (IsParted whole form file)) form whole file) (OfForm whole form) c.told-text.result
    (λ due h. (file, reads, c.in_ok-reading.ensures.descriptors, h)) due
