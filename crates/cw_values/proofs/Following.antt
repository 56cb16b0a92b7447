-- A step of the program from a state of a plain run: the state behind it, or the end of the run.
use Rattle.std.proofs.Common.{◌≡◌, ℕ, suc, List, [], ◌∷◌, false, map, Option, Some, None, refl, sym, ap, subst, ◌∙◌}
use Rattle.std.specs.Prelude.{slice_get, option_and_then}
use Rattle.cw_rights.specs.declared.capabilities.Primitive.{Primitive}
use Rattle.cw_rights.specs.Policies.{PlainPolicy}
use Rattle.cw_certs.specs.declared.moves.Move.TheVariants.{Skip}
use Rattle.cw_syntax.specs.declared.program.Name.{Name}
use Rattle.cw_syntax.specs.Frames.{Item, Frame, Way, after, pass}
use Rattle.cw_syntax.specs.Runnable.{IsRunnable}
use Rattle.cw_resolve.specs.Scenes.{names_of}
use Rattle.cw_points.specs.declared.graph.Node.{Node}
use Rattle.cw_points.specs.declared.graph.Part.{Part}
use Rattle.cw_points.specs.Graphs.{nodes}
use Rattle.cw_points.specs.Points.{points}
use Rattle.cw_points.specs.Walks.{Stand, leads, goes as goes_to, parts_of}
use Rattle.cw_points.proofs.Laying.{situated_program}
use Rattle.cw_points.proofs.Ways.{StackAt, Tied}
use Rattle.cw_points.proofs.Walking.{tied}
use Rattle.cw_model.specs.Boards.{Problem, problem_of, Phase, Free, begin, onward, moved, landed, passed_by, primitives_in}
use Rattle.cw_model.specs.Runs.{State}
use Rattle.cw_value.specs.declared.values.Stop.{Stop}
use Rattle.cw_value.specs.Machines.{Source, Machine, Step, goes, halts, step, step_by, call_in}
use Rattle.cw_value.specs.Shown.{Values}
use Rattle.cw_value.specs.Runs.{Going, IsWeaving, Ends, weaves, steps, halted}
use Rattle.cw_agree.proofs.Progress.{Ready, TopSettled, Progress, halting, going, progress, landed_next}
use Rattle.cw_values.specs.Stands.{plan, below, Stands, Follows, Passes, Breaks}
use Rattle.cw_values.proofs.Fronts.{suited, Suits}

module _ (policy : PlainPolicy) (s : Source) where
  abbrev pr : Problem
  pr = problem_of policy s.bytes s.file

  abbrev EndsFrom : ℕ → Going → Values → Type 0
  EndsFrom n g v = Ends s pr None n g v

  -- ---- the visits of the front are skipped

  abbrev in_phase : Going → Phase → Going
  in_phase g x = record g { woven = record { board = record g.woven.board { phase = x }; mems = g.woven.mems } }

  down : (later : List Primitive) (g : Going) (stage n : ℕ) (v : Values) → g.woven.board.phase ≡ onward stage later → EndsFrom (suc n) (in_phase g Free) v → EndsFrom (suc n) g v
  down [] g stage n v e h = subst (λ (x : Phase). EndsFrom (suc n) (in_phase g x) v) (sym e) h
  down (a ∷ later) g stage n v e h =
      let next : State = record { board = passed_by g.woven.board stage later; mems = g.woven.mems } in
      weaves n g Skip next v (subst IsWeaving (sym e) tt) refl (λ q. absurd (cc)) (ap (λ (x : Phase). moved pr g.woven.board x Skip) e, refl)
      (down later (record g { woven = next }) (suc stage) n v refl h)

  module _ (g : Going) (i : Item) (is : Frame) (frames : List Frame) (front : g.woven.board.stack ≡ (i ∷ is) ∷ frames) (phase : g.woven.board.phase ≡ begin policy g.woven.board.stack) where
    to_front : (n : ℕ) (v : Values) → EndsFrom (suc n) (in_phase g Free) v → EndsFrom (suc n) g v
    to_front n v h = down (primitives_in policy (i ∷ is)) g 0 n v (phase ∙ ap (begin policy) front) h

    -- the run ends at the step
    pub halts_front : (why : Stop) (k : Machine) → step_by s false i frames g.machine ≡ halts why k → (n : ℕ) → EndsFrom (suc n) g (record { made = k.made; tried = g.tried; stop = why })
    halts_front why k e n = to_front n _ (halted n (in_phase g Free) why k tt (ap (λ st. step s false st g.machine) front ∙ e))

    abbrev pub landed_to : Way → List Frame → Machine → Going
    landed_to way next k = record g { woven = record { board = landed pr None g.woven.board way next; mems = g.woven.mems }; machine = k }

    -- or goes on behind it
    pub goes_front : IsRunnable (plan policy s) → (way : Way) (next : List Frame) (k : Machine) → pass (plan policy s) g.woven.board.stack way ≡ Some next
        → step_by s false i frames g.machine ≡ goes way k → Follows policy s g (landed_to way next k)
    goes_front runs way next k ps e = λ n v rest.
        to_front n v
        (steps n (in_phase g Free) way k (landed_to way next k).woven v tt (ap (λ st. step s false st g.machine) front ∙ e)
        (landed_next policy s runs (in_phase g Free).woven.board way next ps, refl) rest)

  -- ---- a step that goes on

  abbrev pub all_nodes : List Node
  all_nodes = nodes (plan policy s)

  abbrev pub all_items : List Item
  all_items = points (plan policy s)

  abbrev pub all_parts : List Part
  all_parts = parts_of (names_of policy) s.bytes s.file

  pub of_stack : (next : List Frame) (o : Option (Option Stand)) → Tied all_nodes all_items (Some next) o → (here : Option Stand) × (o ≡ Some here) × StackAt all_nodes all_items next here
  of_stack next None t = absurd t
  of_stack next (Some here) t = (here, refl, t)

  -- what a step by this way leaves
  pub record Moved (runs : IsRunnable (plan policy s)) (stack : List Frame) (st : Stand) (way : Way) (k : Machine) : Type 0 where
    pub next : List Frame
    pub passes : pass (plan policy s) stack way ≡ Some next
    pub here : Option Stand
    pub leads : goes_to all_nodes all_parts st way ≡ Some here
    pub stands : StackAt all_nodes all_items next here
    pub ready : Ready policy s runs next k.frames
    pub settled : TopSettled policy s runs next

  other_way : (why : Stop) (k m : Machine) (way : Way) → halts why k ≡ goes way m → ⊥
  other_way why k m way e = absurd (cc)

  same_way : (a b : Way) (k m : Machine) → goes a k ≡ goes b m → a ≡ b
  same_way a b k m e = cc

  same_machine : (a b : Way) (k m : Machine) → goes a k ≡ goes b m → k ≡ m
  same_machine a b k m e = cc

  by_progress : (runs : IsRunnable (plan policy s)) (frame : Frame) (frames : List Frame) (st : Stand) (way : Way) (k : Machine) (x : Step) → x ≡ goes way k
      → StackAt all_nodes all_items (frame ∷ frames) (Some st) → Progress policy s runs (frame ∷ frames) x → Moved runs (frame ∷ frames) st way k
  by_progress runs frame frames st way k x e at (halting why m q) = absurd (other_way why m k way (sym q ∙ e))
  by_progress runs frame frames st way k x e at (going a m next q ps r t) =
      let same = same_way a way m k (sym q ∙ e) in
      let passes = subst (λ w. pass (plan policy s) (frame ∷ frames) w ≡ Some next) same ps in
      let t2 = tied all_nodes all_items (plan policy s) all_parts (situated_program (names_of policy) s.bytes s.file) frame frames st way at in
      let to = of_stack next (goes_to all_nodes all_parts st way) (subst (λ o. Tied all_nodes all_items o (goes_to all_nodes all_parts st way)) passes t2) in
      record {
        next = next;
        passes = passes;
        here = to.0;
        leads = to.1;
        stands = to.2;
        ready = subst (λ (y : Machine). Ready policy s runs next y.frames) (same_machine a way m k (sym q ∙ e)) r;
        settled = t;
      }

  -- the front of a state that stands at a point
  pub record Fronted (st : Stand) (g : Going) : Type 0 where
    pub item : Item
    pub rest : Frame
    pub frames : List Frame
    pub front : g.woven.board.stack ≡ (item ∷ rest) ∷ frames
    pub what : Node
    pub node : slice_get all_nodes st.point ≡ Some what
    pub point : slice_get all_items st.point ≡ Some item
    pub suits : Suits item what.point

  fronted_by : (stack : List Frame) (st : Stand) (g : Going) → g.woven.board.stack ≡ stack → StackAt all_nodes all_items stack (Some st) → Fronted st g
  fronted_by [] st g e h = absurd h
  fronted_by ([] ∷ frames) st g e h = absurd h.2.2
  fronted_by ((i ∷ is) ∷ frames) st g e h =
      let at = suited all_nodes all_items h.0 h.1 i is h.2.0 h.2.1 st.point h.2.2 h.3 in
      record { item = i; rest = is; frames = frames; front = e; what = at.what; node = at.here.0; point = at.here.1; suits = at.suits }

  pub fronted : (st : Stand) (calls : List (Option (ℕ × Option Name))) (m : Machine) (g : Going) → Stands policy s (Some st) calls m g → Fronted st g
  fronted st calls m g h = fronted_by g.woven.board.stack st g refl h.stack

  module _ (st : Stand) (calls : List (Option (ℕ × Option Name))) (m : Machine) (g : Going) (h : Stands policy s (Some st) calls m g) (f : Fronted st g) where
    abbrev frame : Frame
    frame = f.item ∷ f.rest

    at_stack : (x : Step) → step_by s false f.item f.frames m ≡ x → step_by s false f.item f.frames g.machine ≡ x
    at_stack x e = ap (step_by s false f.item f.frames) h.machine ∙ e

    -- the step of the front
    at_front : (x : Step) → step_by s false f.item f.frames m ≡ x → step s false g.woven.board.stack g.machine ≡ x
    at_front x e = ap (λ (st : List Frame). step s false st g.machine) f.front ∙ at_stack x e

    pub halts_here : (why : Stop) (k : Machine) → step_by s false f.item f.frames m ≡ halts why k → Breaks policy s why k g
    halts_here why k e = record {
      does = at_front (halts why k) e;
      ends = λ n.
          subst (λ (t : ℕ). EndsFrom (suc n) g (record { made = k.made; tried = t; stop = why })) h.tried
          (halts_front g f.item f.rest f.frames f.front h.phase why k (at_stack (halts why k) e) n);
    }

    pub goes_here : (way : Way) (k : Machine) → step_by s false f.item f.frames m ≡ goes way k → Moved h.runs (frame ∷ f.frames) st way k
    goes_here way k e =
        by_progress h.runs frame f.frames st way k (step_by s false f.item f.frames g.machine) (at_stack (goes way k) e)
        (subst (λ (x : List Frame). StackAt all_nodes all_items x (Some st)) f.front h.stack)
        (progress policy s h.runs f.item f.rest f.frames g.machine (subst (λ (x : List Frame). Ready policy s h.runs x g.machine.frames) f.front h.ready)
        (subst (λ (x : List Frame). TopSettled policy s h.runs x) f.front h.settled))

    -- the state behind the step stands where it leads
    pub stands_on : (way : Way) (k : Machine) (e : step_by s false f.item f.frames m ≡ goes way k) (here : Option Stand) (after : List (Option (ℕ × Option Name)))
        → (goes_here way k e).here ≡ here → map call_in (below (goes_here way k e).next) ≡ after
        → (now : Going) × Stands policy s here after k now × Follows policy s g now × Passes policy s way g now
    stands_on way k e here after to waiting =
        let moved = goes_here way k e in
        let passes = ap (λ (x : List Frame). pass (plan policy s) x way) f.front ∙ moved.passes in (
          landed_to g f.item f.rest f.frames f.front h.phase way moved.next k,
          record {
            runs = h.runs;
            stack = subst (λ (o : Option Stand). StackAt all_nodes all_items moved.next o) to moved.stands;
            waiting = waiting;
            machine = refl;
            phase = refl;
            tried = h.tried;
            ready = moved.ready;
            settled = moved.settled;
          },
          goes_front g f.item f.rest f.frames f.front h.phase h.runs way moved.next k passes (at_stack (goes way k) e),
          record { does = at_front (goes way k) e; passes = passes },
        )

    -- the node's own step
    pub leads_here : (way : Way) (here : Option Stand) → goes_to all_nodes all_parts st way ≡ Some here → leads all_parts st.returns f.what.point f.what.next way ≡ Some here
    leads_here way here e = sym (ap (option_and_then (λ n. leads all_parts st.returns n.point n.next way)) f.node) ∙ e
