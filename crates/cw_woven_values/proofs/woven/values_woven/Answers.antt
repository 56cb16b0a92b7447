use Rattle.std.proofs.Common.{ℕ, ℤ, List, Some, Vec, Global, map, sym, subst}
use Rattle.std.specs.List.{All}
use Rattle.cw_rights.specs.declared.policy.Policy.{Policy}
use Rattle.cw_rights.specs.Policies.{policy_of}
use Rattle.cw_certs.specs.declared.moves.Move.{Move}
use Rattle.cw_syntax.specs.Trees.{file_of}
use Rattle.cw_resolve.specs.Scenes.{names_of}
use Rattle.cw_points.specs.declared.graph.Graph.{Graph}
use Rattle.cw_points.specs.Graphs.{IsGraph}
use Rattle.cw_source.proofs.Runnable.{runnable}
use Rattle.cw_source_laws.proofs.Opening.{read_programs_assign}
use Rattle.cw_value.specs.Machines.{Source}
use Rattle.cw_value.specs.Shown.{IsAnswer, answers_of, values_of}
use Rattle.cw_value.specs.Starts.{begun}
use Rattle.cw_value.specs.Runs.{RunsFrom}
use Rattle.cw_agree.proofs.Agreement.{some_run_agrees}
use Rattle.cw_starts.specs.declared.sizes.Source.{Source as HeldSource}
use Rattle.cw_starts.specs.Sources.{source_in}
use Rattle.cw_values.specs.Running.{IsPrepared}
use Rattle.cw_woven_values.specs.Standing.{IsWoven, problem}
use Rattle.cw_woven_values.proofs.woven.values_woven.Goals as goal

pub run_all-requires : goal.run_all-requires
run_all-requires c =
    let bytes = c.args.checked.now.source.now in
    let file = file_of c.args.checked.now.program in
    record {
      known = c.run-run.ensures.known (policy_of c.args.game.now.states.policy)
          (subst (λ (p : Policy). IsPrepared (policy_of p) bytes file c.in_ok-prepared.prepared) c.policy.ensures c.in_ok-prepared.ensures);
    }

pub returns-clause-run : goal.returns-clause-run
returns-clause-run c =
    let h = c.args.game.now in
    let t = c.args.table.now in
    let policy = policy_of h.states.policy in
    let bytes = c.args.checked.now.source.now in
    let file = file_of c.args.checked.now.program in
    let answers = c.args.answers.now in
    let s : List (Vec ℕ Global × ℤ) → Source = λ names. record { bytes = bytes; file = file; given = map (λ g. (g.0.items, g.1)) names } in
    let v = values_of c.in_ok-values.values in
    let w : IsWoven h (s c.deref.result.now) t = record {
      valid = c.requires.valid;
      lists = c.requires.lists;
      drawn = c.requires.drawn;
      runs = runnable (names_of policy) bytes file c.requires.reads;
      assigns = read_programs_assign bytes file c.requires.reads;
      good = c.requires.good;
      fits = c.requires.fits;
    }
    in
    let same = c.run-run.ensures.source in
    let prepared = subst (λ (p : Policy). IsPrepared (policy_of p) bytes file c.in_ok-prepared.prepared) c.policy.ensures c.in_ok-prepared.ensures in
    let is_run = c.run-run.ensures.is_run policy prepared (subst (λ (g : Graph). IsGraph (names_of policy) bytes file g) (sym c.graph.ensures) c.requires.drawn) in
    let all = subst (λ (l : List Move). All IsAnswer l) (sym c.deref-2.ensures.value) c.requires.in_order.answer in
    let held = c.in_ok-values.ensures (subst (λ (z : HeldSource). IsWoven h (source_in z) t) (sym same) w) is_run all in
    let e =
    subst (λ (z : HeldSource). RunsFrom (source_in z) (problem h (source_in z) t) (Some t) c.deref-2.result.now (begun (source_in z) c.deref-3.result.now) v) same held
    in
    subst (λ (names : List (Vec ℕ Global × ℤ)). RunsFrom (s names) (problem h (s names) t) (Some t) answers.tries.items (begun (s names) answers.calls.items) v) c.deref.ensures.value
    (subst (λ (tries : List Move). RunsFrom (s c.deref.result.now) (problem h (s c.deref.result.now) t) (Some t) tries (begun (s c.deref.result.now) answers.calls.items) v) c.deref-2.ensures.value
    (subst (λ (calls : List ℤ). RunsFrom (s c.deref.result.now) (problem h (s c.deref.result.now) t) (Some t) c.deref-2.result.now (begun (s c.deref.result.now) calls) v) c.deref-3.ensures.value e))

pub returns-clause-agrees : goal.returns-clause-agrees
returns-clause-agrees c =
    let policy = policy_of c.args.game.now.states.policy in
    let bytes = c.args.checked.now.source.now in
    let file = file_of c.args.checked.now.program in
    some_run_agrees policy c.args.table.now bytes file (answers_of c.args.answers.now) (values_of c.in_ok-values.values)
    (runnable (names_of policy) bytes file c.requires.reads) c.requires.fits (returns-clause-run c)
