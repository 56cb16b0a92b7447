use Rattle.std.proofs.lemmas.Result.{err_from_is_err_and}
use Rattle.cw_rights.specs.Policies.{policy_of}
use Rattle.cw_stages.specs.Stops.{told_of}
use Rattle.cw_cli.specs.Sampling.{IsSummed}
use Rattle.cw_cli.proofs.Counted.{no_verdict}
use Rattle.cw_cli.proofs.Sampled.{summed_due}
use Rattle.cw_cli.proofs.sampling.sampled.Goals as goal

pub returns-in_err-count-clause-due : goal.returns-in_err-count-clause-due
returns-in_err-count-clause-due g c =
    let whole = policy_of c.args.policy.now in
    let source = c.args.source.now in
    let p = err_from_is_err_and c.from_residual.result c.from_residual.ensures.1 in
    rw (p.1, p.2) (λ due r. no_verdict (λ file. IsSummed c.args.number whole source file) whole source due (c.in_err-count.ensures.due due r))

pub returns-clause-due : goal.returns-clause-due
returns-clause-due g c =
    let count = c.in_ok-count.count in
    summed_due count.numbers (policy_of c.args.policy.now) c.args.source.now c.args.number count.reply c.in_ok-count.ensures.due.0 (told_of c.summary.result) c.summary.ensures.due c.in_ok-count.ensures.due.1
