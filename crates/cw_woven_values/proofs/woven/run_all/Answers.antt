use Rattle.std.proofs.Common.{Some, sym, subst}
use Rattle.std.specs.Prelude.{IfOk}
use Rattle.cw_rights.specs.Policies.{policy_of}
use Rattle.cw_value.specs.Expressions.{Outcome}
use Rattle.cw_value.specs.Declarations.{Done}
use Rattle.cw_value.specs.Shown.{values_of}
use Rattle.cw_value.specs.Starts.{begun}
use Rattle.cw_value.specs.Runs.{RunsFrom}
use Rattle.cw_starts.specs.Sources.{source_in}
use Rattle.cw_values.specs.declared.starting.Begun.{Begun}
use Rattle.cw_values.specs.Starting.{Begins}
use Rattle.cw_woven_values.specs.Standing.{problem}
use Rattle.cw_woven_values.proofs.woven.run_all.Goals as goal

pub returns-in-Main : goal.returns-in-Main
returns-in-Main c = λ w is_run all.
    let run = c.args.run.now in
    let s = source_in run.known.source in
    let h = c.args.game.now in
    let t = c.args.table.now in
    let policy = policy_of h.states.policy in
    let tries = c.args.tries.now in
    let turns = begun s c.args.calls.now in
    let b = subst (λ (x : Begun). Begins policy run tries turns x) c.in-Main.is (c.in_ok-main.ensures policy tries is_run w.runs) in
    subst (λ (o : Outcome Done). IfOk c.run_main.result (λ v. RunsFrom s (problem h s t) (Some t) tries o (values_of v))) (sym b.2) (c.run_main.ensures w b.1 is_run all b.3)

pub returns-in-Ended : goal.returns-in-Ended
returns-in-Ended c = λ w is_run all.
    let run = c.args.run.now in
    let s = source_in run.known.source in
    let h = c.args.game.now in
    let t = c.args.table.now in
    let policy = policy_of h.states.policy in
    let tries = c.args.tries.now in
    let turns = begun s c.args.calls.now in
    let b = subst (λ (x : Begun). Begins policy run tries turns x) c.in-Ended.is (c.in_ok-main.ensures policy tries is_run w.runs) in
    subst (λ (o : Outcome Done). RunsFrom s (problem h s t) (Some t) tries o (values_of c.in-Ended.values)) (sym b.2) b.3
