use Rattle.std.proofs.lemmas.Result.{err_from_is_err_and}
use Rattle.cw_rights.specs.Policies.{policy_of}
use Rattle.cw_stages.specs.Stops.{told_of}
use Rattle.cw_cli.proofs.Counted.{no_verdict, verdict_due}
use Rattle.cw_cli.specs.Weaving.{AfterPair}
use Rattle.cw_stages.specs.Verdicts.{IsVerdict}
use Rattle.cw_cli.proofs.weaving.woven.Goals as goal

pub returns-clause-due : goal.returns-clause-due
returns-clause-due g c =
    verdict_due c.in_ok-verdict.verdict.numbers (policy_of c.args.policy.now) c.args.source.now (told_of c.in_ok-verdict.verdict.text) c.in_ok-verdict.ensures.due

pub returns-in_err-verdict-clause-due : goal.returns-in_err-verdict-clause-due
returns-in_err-verdict-clause-due g c =
    let whole = policy_of c.args.policy.now in
    let source = c.args.source.now in
    let p = err_from_is_err_and c.from_residual.result c.from_residual.ensures.1 in
    rw (p.1, p.2) (λ due r. no_verdict (λ file. IsVerdict whole source file) whole source due (c.in_err-verdict.ensures.due due r))
