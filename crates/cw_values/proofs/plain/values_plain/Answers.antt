use Rattle.std.proofs.Common.{ℕ, ℤ, List, None, Vec, Global, map, sym, subst}
use Rattle.cw_rights.specs.Policies.{policy_of}
use Rattle.cw_syntax.specs.Trees.{file_of}
use Rattle.cw_model.specs.Boards.{problem_of}
use Rattle.cw_value.specs.Machines.{Source}
use Rattle.cw_value.specs.Shown.{values_of}
use Rattle.cw_value.specs.Starts.{begun}
use Rattle.cw_value.specs.Runs.{RunsFrom}
use Rattle.cw_starts.specs.declared.sizes.Source.{Source as HeldSource}
use Rattle.cw_starts.specs.Sources.{source_in}
use Rattle.cw_syntax.specs.Runnable.{IsRunnable}
use Rattle.cw_values.specs.Stands.{plan}
use Rattle.cw_values.proofs.plain.values_plain.Goals as goal

pub run_all-requires : goal.run_all-requires
run_all-requires c = record { known = c.run-run.ensures.known (policy_of c.args.policy.now) c.in_ok-prepared.ensures }

pub returns-clause-run : goal.returns-clause-run
returns-clause-run c =
    let policy = policy_of c.args.policy.now in
    let bytes = c.args.checked.now.source.now in
    let file = file_of c.args.checked.now.program in
    let tries = c.args.answers.now.tries.items in
    let s : List (Vec ℕ Global × ℤ) → Source = λ names. record { bytes = bytes; file = file; given = map (λ g. (g.0.items, g.1)) names } in
    let same = c.run-run.ensures.source in
    let runs = subst (λ (z : HeldSource). IsRunnable (plan policy (source_in z))) (sym same) c.requires.runnable in
    let held = c.in_ok-values.ensures policy tries (c.run-run.ensures.is_run policy c.in_ok-prepared.ensures c.requires.drawn) runs in
    let e =
    subst (λ (z : HeldSource). RunsFrom (source_in z) (problem_of policy (source_in z).bytes (source_in z).file) None tries (begun (source_in z) c.deref-2.result.now)
    (values_of c.in_ok-values.values)) same held
    in
    subst (λ (names : List (Vec ℕ Global × ℤ)). RunsFrom (s names) (problem_of policy bytes file) None tries (begun (s names) c.args.answers.now.calls.items)
    (values_of c.in_ok-values.values)) c.deref.ensures.value
    (subst (λ (calls : List ℤ). RunsFrom (s c.deref.result.now) (problem_of policy bytes file) None tries (begun (s c.deref.result.now) calls)
    (values_of c.in_ok-values.values)) c.deref-2.ensures.value e)
