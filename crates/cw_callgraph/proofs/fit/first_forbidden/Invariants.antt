use Rattle.std.proofs.Common.{◌≡◌, ◌<◌, ℕ, List, Some, map}
use Rattle.std.specs.Prelude.{slice_get}
use Rattle.cw_syntax.specs.Trees.{file_of}
use Rattle.cw_rights.specs.Policies.{policy_of}
use Rattle.cw_resolve.specs.Scenes.{names_of}
use Rattle.cw_callgraph.specs.Fitting.{MayBeSplit}
use Rattle.cw_callgraph.proofs.fit.first_forbidden.Given as goal

abbrev pub invariant-loop-i : goal.invariant-loop-i
invariant-loop-i l =
    (j : ℕ) (before : List ℕ) → j < l.i → slice_get (map (λ n. n.items) l.names) j ≡ Some before
    → MayBeSplit l.checked.source.now (file_of l.checked.program) (names_of (policy_of l.policy)) before
