use Rattle.std.proofs.lemmas.Option.{unwrap_or-slice_get}
use Rattle.cw_rights.specs.declared.capabilities.Hold.TheVariants.{Closed}
use Rattle.cw_rights.proofs.Limits.{yes_is, not_capable_is}
use Rattle.cw_rights.proofs.capabilities.limit_allowed.Goals as goal

pub returns-clause-yes : goal.returns-clause-yes
returns-clause-yes c =
    let e = unwrap_or-slice_get c.args.caps.now.holds c.args.limit.descriptor Closed in
    yes_is c.args.caps.now c.args.limit c.allowed_on.result cc

pub returns-clause-not_capable : goal.returns-clause-not_capable
returns-clause-not_capable c =
    let e = unwrap_or-slice_get c.args.caps.now.holds c.args.limit.descriptor Closed in
    not_capable_is c.args.caps.now c.args.limit c.allowed_on.result cc
