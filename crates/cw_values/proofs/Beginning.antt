-- How a run begins.
use Rattle.std.proofs.Common.{◌≡◌, ℕ, List, [], ◌∷◌, length, map, Option, Some, None, option_map, refl, sym, ap, subst, ◌∙◌}
use Rattle.std.specs.Prelude.{slice_get}
use Rattle.cw_core.specs.declared.ids.PointId.{PointId}
use Rattle.cw_rights.specs.Policies.{PlainPolicy}
use Rattle.cw_certs.specs.declared.moves.Move.{Move}
use Rattle.cw_syntax.specs.declared.program.Function.{Function}
use Rattle.cw_syntax.specs.Trees.{Definition, definition_of}
use Rattle.cw_syntax.specs.Frames.{Frame, start_stack, stack_of, frame_of}
use Rattle.cw_syntax.specs.Runnable.{IsRunnable}
use Rattle.cw_resolve.specs.Scenes.{names_of}
use Rattle.cw_points.specs.declared.graph.Part.{Part}
use Rattle.cw_points.specs.Graphs.{nodes}
use Rattle.cw_points.specs.Points.{points}
use Rattle.cw_points.specs.Walks.{Stand, stand, parts_of}
use Rattle.cw_points.proofs.Laying.{situated_program}
use Rattle.cw_points.proofs.Ways.{StackAt}
use Rattle.cw_points.proofs.Walking.{starts}
use Rattle.cw_model.specs.Boards.{problem_of}
use Rattle.cw_value.specs.Stores.{Store}
use Rattle.cw_value.specs.Expressions.{Memory}
use Rattle.cw_value.specs.Machines.{Source, call_in, function, own_if, unset_store, with_first}
use Rattle.cw_value.specs.Starts.{main_cells, main_machine}
use Rattle.cw_value.specs.Runs.{Going, going_start}
use Rattle.cw_agree.proofs.Progress.{start_ok}
use Rattle.cw_machine.specs.declared.machine.Machine.{Machine as HeldMachine}
use Rattle.cw_machine.specs.Shown.{back_of, call_of, machine_of}
use Rattle.cw_machine.specs.declared.machine.Wait.{Wait}
use Rattle.cw_starts.specs.Sources.{source_in}
use Rattle.cw_values.specs.declared.running.Run.{Run}
use Rattle.cw_values.specs.Running.{IsRunOf}
use Rattle.cw_values.specs.Stands.{plan, below, here_of, Stands, StandsAt}

no_calls : (o : Option Frame) → map call_in (below (stack_of o)) ≡ []
no_calls None = refl
no_calls (Some frame) = refl

entered : (o : Option Part) → option_map (λ part. stand [] part.entry.0) o ≡ here_of (option_map (λ part. part.entry) o) []
entered None = refl
entered (Some part) = refl

pub main_is : (s : Source) (mem : Memory) (n main : ℕ) (own : Store) → own ≡ with_first (main_cells s (function s n)) (unset_store (own_if s.bytes (function s n))) → n ≡ main
    → main_machine s main mem ≡ record { shared = mem.shared; frames = record { function = n; own = own; answer = None; saved = None } ∷ []; calls = mem.calls; made = mem.made }
main_is s mem n main own e q =
    ap (λ (k : ℕ). main_machine s k mem) (sym q)
    ∙ ap (λ (x : Store). record { shared = mem.shared; frames = record { function = n; own = x; answer = None; saved = None } ∷ []; calls = mem.calls; made = mem.made }) (sym e)

module _ (policy : PlainPolicy) (run : Run) (is_run : IsRunOf policy run) (runs : IsRunnable (plan policy (source_in run.known.source))) (tries : List Move) (mem : Memory) where
  abbrev s : Source
  s = source_in run.known.source

  abbrev pub start : Going
  start = going_start s (problem_of policy s.bytes s.file) None tries mem

  -- the run stands at the entry of `main`
  pub stands_first : (m : HeldMachine) (o : Option PointId) → m.waits.items ≡ [] → o ≡ option_map (λ part. part.entry) (slice_get run.graph.now.parts.items run.graph.now.main)
      → main_machine s (plan policy s).main mem ≡ machine_of m → StandsAt policy s o m start
  stands_first m o none at e =
      let p = plan policy s in
      let ok = start_ok policy s runs tries mem in
      let parts = parts_of (names_of policy) s.bytes s.file in
      let stack : StackAt (nodes p) (points p) (start_stack p) (option_map (λ part. stand [] part.entry.0) (slice_get parts p.main)) =
      starts (nodes p) (points p) p parts (situated_program (names_of policy) s.bytes s.file)
      in
      let same : slice_get parts p.main ≡ slice_get run.graph.now.parts.items run.graph.now.main =
      ap (λ (n : ℕ). slice_get parts n) (sym is_run.graph.main) ∙ ap (λ (ps : List Part). slice_get ps run.graph.now.main) (sym is_run.graph.parts)
      in
      let here : option_map (λ part. stand [] part.entry.0) (slice_get parts p.main) ≡ here_of o [] =
      ap (option_map (λ part. stand [] part.entry.0)) same ∙ (entered (slice_get run.graph.now.parts.items run.graph.now.main) ∙ ap (λ (x : Option PointId). here_of x []) (sym at))
      in
      let first : Stands policy s (here_of o []) [] (machine_of m) start =
      record {
        runs = runs;
        stack = subst (λ (h : Option Stand). StackAt (nodes p) (points p) (start_stack p) h) here stack;
        waiting = no_calls (frame_of p p.main);
        machine = e;
        phase = refl;
        tried = refl;
        ready = ok.ready;
        settled = ok.settled;
      }
      in
      subst (λ (ws : List Wait). Stands policy s (here_of o (map back_of ws)) (map call_of ws) (machine_of m) start) (sym none) first

past : {A B : Type 0} (f : A → B) (xs : List A) → slice_get (map f xs) (length xs) ≡ None
past f [] = refl
past f (x ∷ xs) = past f xs

-- no function has the number behind the last one
pub none_behind : (s : Source) (functions : List Function) (n : ℕ) → s.file.functions ≡ map definition_of functions → n ≡ length functions → function s n ≡ None
none_behind s functions n e q = ap (λ (fs : List Definition). slice_get fs n) e ∙ (ap (slice_get (map definition_of functions)) q ∙ past definition_of functions)
