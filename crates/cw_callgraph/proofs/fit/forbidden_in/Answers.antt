use Rattle.std.proofs.Common.{ℕ, List, Vec, Global, IfOk, IfNone, IfSome, map, subst}
use Rattle.std.specs.List.{All}
use Rattle.cw_syntax.specs.Trees.{file_of}
use Rattle.cw_rights.specs.Policies.{policy_of}
use Rattle.cw_resolve.specs.Scenes.{names_of}
use Rattle.cw_callgraph.specs.Fitting.{MayBeSplit, IsFirstForbidden}
use Rattle.cw_callgraph.proofs.fit.forbidden_in.Goals as goal

pub returns-clause-none : goal.returns-clause-none
returns-clause-none c =
    let may = MayBeSplit c.args.checked.now.source.now (file_of c.args.checked.now.program) (names_of (policy_of c.args.policy.now)) in
    subst (λ (l : List (Vec ℕ Global)). IfOk c.first_forbidden.result (λ found. IfNone found (All may (map (λ (n : Vec ℕ Global). n.items) l)))) c.deref.ensures.value c.first_forbidden.ensures.none

pub returns-clause-some : goal.returns-clause-some
returns-clause-some c =
    let is = IsFirstForbidden c.args.checked.now.source.now (file_of c.args.checked.now.program) (names_of (policy_of c.args.policy.now)) in
    subst (λ (l : List (Vec ℕ Global)). IfOk c.first_forbidden.result (λ found. IfSome found (λ w. is (map (λ (n : Vec ℕ Global). n.items) l) w.0 w.1)))
    c.deref.ensures.value c.first_forbidden.ensures.some
