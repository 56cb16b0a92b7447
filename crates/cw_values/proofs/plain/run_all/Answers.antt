use Rattle.std.proofs.Common.{None, sym, subst}
use Rattle.std.specs.Prelude.{IfOk}
use Rattle.cw_model.specs.Boards.{problem_of}
use Rattle.cw_value.specs.Expressions.{Outcome}
use Rattle.cw_value.specs.Declarations.{Done}
use Rattle.cw_value.specs.Shown.{values_of}
use Rattle.cw_value.specs.Starts.{begun}
use Rattle.cw_value.specs.Runs.{RunsFrom}
use Rattle.cw_starts.specs.Sources.{source_in}
use Rattle.cw_values.specs.declared.starting.Begun.{Begun}
use Rattle.cw_values.specs.Starting.{Begins, first_going}
use Rattle.cw_values.proofs.plain.run_all.Goals as goal

pub returns-in-Main : goal.returns-in-Main
returns-in-Main c = λ policy tries is_run runs.
    let run = c.args.run.now in
    let s = source_in run.known.source in
    let turns = begun s c.args.calls.now in
    let b = subst (λ (x : Begun). Begins policy run tries turns x) c.in-Main.is (c.in_ok-main.ensures policy tries is_run runs) in
    subst (λ (o : Outcome Done). IfOk c.run_main.result (λ v. RunsFrom s (problem_of policy s.bytes s.file) None tries o (values_of v))) (sym b.2)
    (c.run_main.ensures policy (first_going policy run tries b.1) is_run b.3.stands)

pub returns-in-Ended : goal.returns-in-Ended
returns-in-Ended c = λ policy tries is_run runs.
    let run = c.args.run.now in
    let s = source_in run.known.source in
    let turns = begun s c.args.calls.now in
    let b = subst (λ (x : Begun). Begins policy run tries turns x) c.in-Ended.is (c.in_ok-main.ensures policy tries is_run runs) in
    subst (λ (o : Outcome Done). RunsFrom s (problem_of policy s.bytes s.file) None tries o (values_of c.in-Ended.values)) (sym b.2) b.3
