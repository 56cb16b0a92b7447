use Rattle.std.proofs.Common.{◌≡◌, List, ◌∷◌, map, None, refl, sym, ap, ◌∙◌}
use Rattle.cw_value.specs.Stores.{Cell}
use Rattle.cw_value.specs.Expressions.{Named}
use Rattle.cw_value.specs.Machines.{function, unset_store, with_first}
use Rattle.cw_value.specs.Starts.{main_cells, main_machine}
use Rattle.cw_eval.specs.Shown.{memory_of, store_of}
use Rattle.cw_machine.specs.declared.machine.Machine.{Machine as HeldMachine}
use Rattle.cw_machine.specs.declared.machine.Wait.{Wait}
use Rattle.cw_machine.specs.Shown.{locals_of, machine_of, top_of}
use Rattle.cw_starts.specs.Sources.{source_in}
use Rattle.cw_values.specs.Running.{entry_of}
use Rattle.cw_values.specs.Stands.{plan}
use Rattle.cw_values.proofs.Beginning.{main_is, stands_first}
use Rattle.cw_values.proofs.starting.start_main.Goals as goal

pub returns : goal.returns
returns c = λ policy tries is_run runs.
    let run = c.args.run.now in
    let s = source_in run.known.source in
    let n = run.graph.now.main in
    let mem = memory_of c.args.memory in
    let m : HeldMachine = record {
      memory = record { own = c.in_ok-own.own; shared = c.args.memory.shared; calls = c.args.memory.calls; made = c.args.memory.made };
      function = n;
      answer = None;
      waits = c.new.result;
    }
    in
    let first : c.deref.result.now ≡ c.in_ok-cells.cells.items = c.deref.ensures.value in
    let own : store_of c.in_ok-own.own ≡ _ =
    c.in_ok-own.ensures.store
    ∙ (ap (λ (x : List Cell). with_first x (unset_store c.names.result.now)) (first ∙ c.in_ok-cells.ensures)
    ∙ ap (λ (x : Named). with_first (main_cells s (function s n)) (unset_store x)) c.names.ensures.names)
    in
    let begins : main_machine s (plan policy s).main mem ≡ machine_of m =
    main_is s mem n (plan policy s).main (store_of c.in_ok-own.own) own is_run.graph.main
    ∙ ap (λ (ws : List Wait). record (machine_of m) { frames = top_of m ∷ map locals_of ws }) (sym c.new.ensures.items)
    in
    record { machine = begins; stands = stands_first policy run is_run runs tries mem m (entry_of run) c.new.ensures.items refl begins }
