use Rattle.std.proofs.Common.{◌≤◌, length, sym, subst, arith}
use Rattle.cw_rights.specs.Policies.{policy_of}
use Rattle.cw_source_graph.specs.Reading.{IsProgramFault}
use Rattle.cw_woven.specs.Accepting.{IsRefused}
use Rattle.cw_woven.proofs.Unread.{is_broken, is_unread}
use Rattle.cw_woven.proofs.acceptance.read.Goals as goal

pub returns-in-Err-Source-clause-fault : goal.returns-in-Err-Source-clause-fault
returns-in-Err-Source-clause-fault c =
    let policy = policy_of c.args.policy.now in
    let source = c.args.source.now in
    let short : length source ≤ 262144 = omega (arith, c.if-source-gt-MOST_BYTES.false) in
    let is = subst (IsProgramFault policy source) c.in-Err-Source.field-0-is c.in-Err-Source.ensures.fault in
    subst (IsRefused policy source) (sym c.unread.ensures) (is_unread policy source c.in-Err-Source.fault short is)

pub returns-in-Err-Descriptors-clause-fault : goal.returns-in-Err-Descriptors-clause-fault
returns-in-Err-Descriptors-clause-fault c =
    let policy = policy_of c.args.policy.now in
    let source = c.args.source.now in
    let short : length source ≤ 262144 = omega (arith, c.if-source-gt-MOST_BYTES.false) in
    let is = subst (IsProgramFault policy source) c.in-Err-Descriptors.field-0-is c.in-Err-Descriptors.ensures.fault in
    subst (IsRefused policy source) (sym c.broken.ensures) (is_broken policy source is.0 c.in-Err-Descriptors.fault short is.1 is.2)
