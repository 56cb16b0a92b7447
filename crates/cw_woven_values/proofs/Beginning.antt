-- How a woven run begins.
use Rattle.std.proofs.Common.{◌≡◌, List, [], Option, Some, None, refl, sym, ap, subst}
use Rattle.std.specs.List.{All}
use Rattle.cw_core.specs.declared.ids.PointId.{PointId}
use Rattle.cw_certs.specs.declared.moves.Move.{Move}
use Rattle.cw_certs.specs.Tables.{Table}
use Rattle.cw_model.specs.Boards.{begin}
use Rattle.cw_product.specs.Product.{Held, game_of}
use Rattle.cw_run.specs.declared.walk.Here.{Here as HereData}
use Rattle.cw_run.specs.Walks.{Here, here_of, start_here}
use Rattle.cw_run.proofs.Sits.{Sits}
use Rattle.cw_run.proofs.Going.{start_sits}
use Rattle.cw_value.specs.declared.values.Stop.TheVariants.{Ended}
use Rattle.cw_value.specs.Expressions.{Memory}
use Rattle.cw_value.specs.Machines.{Source, Machine}
use Rattle.cw_value.specs.Shown.{IsAnswer}
use Rattle.cw_value.specs.Runs.{Going, Ends, going_start, most_steps, over}
use Rattle.cw_agree.proofs.Agreement.{start_paired}
use Rattle.cw_starts.specs.Sources.{source_in}
use Rattle.cw_machine.specs.declared.machine.Machine.{Machine as HeldMachine}
use Rattle.cw_machine.specs.Shown.{machine_of}
use Rattle.cw_values.specs.declared.running.Run.{Run}
use Rattle.cw_values.specs.Running.{entry_of}
use Rattle.cw_values.specs.Stands.{StandsAt}
use Rattle.cw_values.specs.Starting.{BeginsMain, first_going}
use Rattle.cw_woven_values.specs.Standing.{IsWoven, problem, policy}
use Rattle.cw_woven_values.specs.Stepping.{StandsWoven}
use Rattle.cw_woven_values.proofs.Found.{g, p, names, held, is_game, caps_held}
use Rattle.cw_woven_values.proofs.Stepped.{no_stack}

module _ (h : Held) (run : Run) (t : Table) (w : IsWoven h (source_in run.known.source) t) (mem : Memory) (tries : List Move) (m : HeldMachine)
    (begins : BeginsMain (policy h (source_in run.known.source) t) run tries mem m) where
  abbrev s : Source
  s = source_in run.known.source

  abbrev pub first : Going
  first = going_start s (problem h s t) (Some t) tries mem

  sits : Sits (problem h s t).plan (game_of h) first.woven (start_here (game_of h) t) []
  sits = start_sits (names h s t w) (g h s t w) t (p h s t w).plan (is_game h s t w).states (is_game h s t w).laid (is_game h s t w).routines (held h s t w) (caps_held h s t w) (λ l. []) refl

  pub stands_first : (point : PointId) (here : HereData) → entry_of run ≡ Some point → here_of here ≡ start_here (game_of h) t → All IsAnswer tries
      → StandsWoven h s t w (record { point = point; here = here }) m [] tries 0 first
  stands_first point here at there all = record {
    plain = first_going (policy h s t) run tries mem;
    stands = subst (λ (o : Option PointId). StandsAt (policy h s t) s o m (first_going (policy h s t) run tries mem)) at begins.stands;
    weaves = record {
      paired = start_paired (policy h s t) s w.fits t tries mem;
      sits = subst (λ (x : Here). Sits (problem h s t).plan (game_of h) first.woven x []) (sym there) sits;
      comes = ([], tt, refl);
      tries = refl;
      answers = all;
      tried = refl;
    };
    fresh = refl;
  }

  -- without a function `main` the run has ended
  pub ends_first : entry_of run ≡ None → Ends s (problem h s t) (Some t) most_steps first (record { made = (machine_of m).made; tried = 0; stop = Ended })
  ends_first none =
      let stands = subst (λ (o : Option PointId). StandsAt (policy h s t) s o m (first_going (policy h s t) run tries mem)) none begins.stands in
      let empty = no_stack h s t w first.woven.board.stack stands.stack in
      subst (λ (x : Machine). Ends s (problem h s t) (Some t) most_steps first (record { made = x.made; tried = 0; stop = Ended })) begins.machine
      (over most_steps first (ap (begin (policy h s t)) empty))
