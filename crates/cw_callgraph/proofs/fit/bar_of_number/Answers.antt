use Rattle.std.proofs.Common.{Option, subst}
use Rattle.std.specs.Prelude.{IfSome}
use Rattle.cw_rights.specs.Policies.{policy_of}
use Rattle.cw_callgraph.specs.declared.table.Parts.{Parts}
use Rattle.cw_callgraph.specs.Parts.{ArePartsOf}
use Rattle.cw_callgraph.proofs.Forbidden.{by_parts, by_walk}
use Rattle.cw_callgraph.proofs.fit.bar_of_number.Goals as goal

pub returns-in-Some : goal.returns-in-Some
returns-in-Some c =
    let checked = c.args.checked.now in
    let policy = policy_of c.args.policy.now in
    by_parts checked policy c.in-Some.parts (subst (λ (p : Option Parts). IfSome p (ArePartsOf checked policy)) c.in-Some.is c.requires.parts) c.args.function c.bar_of.result c.bar_of.ensures

pub returns-in-None : goal.returns-in-None
returns-in-None c = by_walk c.args.checked.now (policy_of c.args.policy.now) c.args.scene.now c.requires.scene c.args.function c.bar_alone.result c.bar_alone.ensures
