use Rattle.std.proofs.Common.{[], map, refl, sym, ap, subst, ◌∙◌}
use Rattle.cw_value.specs.Machines.{globals}
use Rattle.cw_value.specs.Starts.{turns}
use Rattle.cw_value.specs.Declarations.{done}
use Rattle.cw_eval.specs.declared.halt.Halt.{Halt}
use Rattle.cw_eval.specs.Shown.{IsHalt, memory_of}
use Rattle.cw_starts.specs.Held.{item_at}
use Rattle.cw_starts.specs.Sources.{source_in}
use Rattle.cw_values.proofs.starting.start.Goals as goal

pub begin-requires : goal.begin-requires
begin-requires c = record {
  turns = record { scope = c.file_scope.ensures; items = ap (map item_at) c.deref.ensures.value ∙ c.in_ok-items.ensures.globals };
}

pub returns-in-Ok : goal.returns-in-Ok
returns-in-Ok c = λ policy tries is_run runs.
    let s = source_in c.args.run.now.known.source in
    (done, memory_of c.begin.new.m, ap (turns s [] (globals s.file)) (sym c.in_ok-memory.ensures) ∙ c.in-Ok.ensures.begun, c.in_ok-main-in-Ok.ensures policy tries is_run runs)

pub returns-in-Err-Stop : goal.returns-in-Err-Stop
returns-in-Err-Stop c = λ policy tries is_run runs.
    let s = source_in c.args.run.now.known.source in
    let halted =
    subst (λ (e : Halt). IsHalt e (memory_of c.begin.new.m) (turns s [] (globals s.file) (memory_of c.in_ok-memory.memory))) c.in-Err-Stop.field-0-is c.in-Err-Stop.ensures.begun
    in
    (c.in-Err-Stop.stop, memory_of c.begin.new.m, ap (turns s [] (globals s.file)) (sym c.in_ok-memory.ensures) ∙ halted, refl)
