use Rattle.std.proofs.Common.{◌<◌, ◌≤◌, ℕ, List, Vec, Global, length, map, rules, subst, arith}
use Rattle.std.proofs.lemmas.List.{length-map}
use Rattle.cw_syntax.specs.Trees.{file_of}
use Rattle.cw_rights.specs.Policies.{policy_of}
use Rattle.cw_resolve.specs.Scenes.{names_of}
use Rattle.cw_callgraph.specs.Fitting.{MayBeSplit}
use Rattle.cw_callgraph.proofs.Barred.{at_none}
use Rattle.cw_callgraph.proofs.Forbidden.{one_more, all_of}
use Rattle.cw_callgraph.proofs.fit.first_forbidden.Goals as goal

pub loop-i-preserved : goal.loop-i-preserved
loop-i-preserved c =
    let may : List ℕ → Type 0 = MayBeSplit c.args.checked.now.source.now (file_of c.args.checked.now.program) (names_of (policy_of c.args.policy.now)) in
    let lt : c.loop-i.i < length c.args.names.now = search rules in
    one_more c.args.names.now may c.loop-i.i c.index-names-i.result lt c.index-names-i.is c.loop-i.invariant
    (subst may c.deref.ensures.value (at_none c.in_ok-place.field-0 (may c.deref.result.now) c.in_default.not-Some c.in_ok-place.ensures.none))

pub returns-clause-none : goal.returns-clause-none
returns-clause-none c =
    let may : List ℕ → Type 0 = MayBeSplit c.args.checked.now.source.now (file_of c.args.checked.now.program) (names_of (policy_of c.args.policy.now)) in
    let names = map (λ (n : Vec ℕ Global). n.items) c.args.names.now in
    let past : length c.args.names.now ≤ c.loop-i.i = search rules in
    all_of names may c.loop-i.i (omega (arith, past, length-map c.args.names.now (λ (n : Vec ℕ Global). n.items))) c.loop-i.invariant
