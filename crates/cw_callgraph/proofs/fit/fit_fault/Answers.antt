use Rattle.std.proofs.Common.{◌≡◌, None, rules}
use Rattle.std.specs.List.{All}
use Rattle.cw_syntax.specs.Trees.{file_of}
use Rattle.cw_rights.specs.Policies.{policy_of}
use Rattle.cw_resolve.specs.Scenes.{names_of}
use Rattle.cw_callgraph.specs.Fitting.{first_unlabelled, first_undefined, MayBeSplit}
use Rattle.cw_callgraph.proofs.Barred.{at_none}
use Rattle.cw_callgraph.proofs.fit.fit_fault.Goals as goal

pub returns-in-None-clause-fits : goal.returns-in-None-clause-fits
returns-in-None-clause-fits c =
    let source = c.args.checked.now.source.now in
    let file = file_of c.args.checked.now.program in
    let policy = policy_of c.args.policy.now in
    let all : All (MayBeSplit source file (names_of policy)) policy.split = search rules in (
      at_none c.in_ok-fault.field-0 (first_unlabelled source file policy.labels ≡ None) c.in_default.not-Some c.in_ok-fault.ensures.labelled,
      at_none c.in_ok-fault.field-0 (first_undefined source file policy.split ≡ None) c.in_default.not-Some c.in_ok-fault.ensures.defined,
      all,
    )
