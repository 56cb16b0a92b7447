-- What a list of steps keeps, entry by entry: the world so far, what it told, and where its processes are.
use Rattle.std.proofs.Common.{◌≡◌, ℕ, List, [], ◌∷◌, ◌++◌, set, take, length, Bool, true, false, not, Option, Some, None, option_and_then, refl, sym, ap, ◌∙◌, subst, ⊎_elim, append-nil, append_assoc, arith}
use Rattle.std.specs.Prelude.{slice_get}
use Rattle.std.proofs.lemmas.Option.{none-some, same_Some}
use Rattle.cw_rights.specs.declared.capabilities.Caps.{Caps}
use Rattle.cw_rights.specs.Words.{Word as Letters}
use Rattle.cw_certs.specs.declared.moves.Move.{Move}
use Rattle.cw_certs.specs.declared.moves.Move.TheVariants.{Left, Right, Refuse}
use Rattle.cw_certs.specs.Tables.{Table}
use Rattle.cw_syntax.specs.Plans.{Plan}
use Rattle.cw_model.specs.Boards.{Problem}
use Rattle.cw_model.specs.Runs.{State, start_state, WovenStep, WovenRun, reached, Sound}
use Rattle.cw_model.proofs.Running.{goes_append, last_append}
use Rattle.cw_model.proofs.Moving.{over_has_none}
use Rattle.cw_game.specs.Games.{AreStates, Game, weavers_in}
use Rattle.cw_game.specs.Reached.{Reached}
use Rattle.cw_game.specs.Places.{IsLaidOut, HasRoutines}
use Rattle.cw_trace.specs.Traces.{Names}
use Rattle.cw_trace.specs.Steps.{Step as RunStep, Follows, state_after, entries_of as run_entries, IsNoMove}
use Rattle.cw_run.specs.Lines.{own_of}
use Rattle.cw_run.specs.Walks.{Here, Wait, Next, waits_after, next_here, next_of, Arrives, start_here}
use Rattle.cw_run.proofs.Prefixed.{own_none}
use Rattle.cw_run.proofs.Sits.{Sits}
use Rattle.cw_run.proofs.Moveless.{Safe, moveless}
use Rattle.cw_run.proofs.Runs.{own_trace}
use Rattle.cw_run.proofs.Going.{RunSoFar, begun, went, spot_of}
use Rattle.cw_worlds.specs.Forks.{at_fork}
use Rattle.cw_worlds.specs.Worlds.{World, Act, Makes, Forks, WorldStep, start_world}
use Rattle.cw_worlds.proofs.Meeting.{process_run}
use Rattle.cw_procs.specs.Steps.{Entry, Done, BadStep, IsNoStep, is_weavers_in, weavers_first}
use Rattle.cw_procs.specs.Told.{fork_line}
use Rattle.cw_procs.specs.Played.{act_of, TellsWorld}
use Rattle.cw_procs.specs.Walks.{Link, Stack, empty, AreKept, Process, Moved, LeadsTo, IsNone, absent, over, other, stuck, unforked, IsStep, moves, forks}
use Rattle.cw_procs.proofs.First.{none_first}
use Rattle.cw_procs.proofs.Segments.{Segment, then_on}
use Rattle.cw_procs.proofs.Embedding.{weaves, moves_on}
use Rattle.cw_procs.proofs.Forking.{forks_on}
use Rattle.cw_procs.proofs.Holding.{LandingIs, AllAre, are_get, are_absent, are_set, are_push, landing_kept, are_kept, are_length, turn_at, landing_rest, are_rest}

abbrev entry_to : ℕ → Act → Entry
entry_to i act = record { process = i; act = act }

module _ (names : Names) (g : Game) (t : Table) (plan : Plan) (forks_here : List ℕ) where
  -- The world so far.
  pub record Keeps (entries : List Entry) (ps : List Process) (links : List Link) (old new : List ℕ) : Type 0 where
    pub world : World
    pub text : List ℕ
    pub segment : Segment names (record { plan = plan; policy = g.policy }) t forks_here (start_world (record { plan = plan; policy = g.policy }) t) entries text world
    pub told : new ≡ old ++ text
    pub are : AllAre plan g links ps world

  -- A process after a step of the environment: the steps, what was told, and where it is.
  pub record After (i : ℕ) (s : State) (by : Move) (links : List Link) (q : Process) (old new : List ℕ) : Type 0 where
    pub state : State
    pub steps : List RunStep
    pub follows : Follows (record { plan = plan; policy = g.policy }) t s steps
    pub reads : run_entries s steps ≡ by ∷ []
    pub comes : state_after s steps ≡ state
    pub told : new ≡ old ++ own_trace names g t plan s (own_of (Some i)) s steps
    pub is : LandingIs plan g links state q.calls q.landing

module _ (names : Names) (g : Game) (t : Table) (plan : Plan) (right : AreStates g.policy g.spots g.states (Reached g.policy g.spots g.states)) (laid : IsLaidOut plan g) (has : HasRoutines plan g)
    (held : ℕ → Caps) (holds : (q : ℕ) (w : Letters) (c : Caps) → Reached g.policy g.spots g.states q w c → held q ≡ c) (forks_here : List ℕ)
    (sound : Sound (record { plan = plan; policy = g.policy }) t) (Flag : Here → Bool → Type 0)
    (flagged : (s : State) (h : Here) (waits : List Wait) (b : Bool) → Sits plan g s h waits → Flag h b → at_fork forks_here s.board ≡ b) where
  abbrev problem : Problem
  problem = record { plan = plan; policy = g.policy }

  abbrev Kept : List Entry → List Process → List Link → List ℕ → List ℕ → Type 0
  Kept entries ps links old new = Keeps names g t plan forks_here entries ps links old new

  abbrev Went : ℕ → State → Move → List Link → Process → List ℕ → List ℕ → Type 0
  Went i s by links q old new = After names g t plan forks_here i s by links q old new

  abbrev start : State
  start = start_state problem t

  abbrev Seg : World → List Entry → List ℕ → World → Type 0
  Seg w entries text after = Segment names problem t forks_here w entries text after

  -- The start: one process, and the weaver's moves.
  pub begins : (here : Here) (old new : List ℕ) → Arrives names g t held (own_of (Some 0)) (start_here g t) here old new → Kept [] (record { landing = Some here; calls = None } ∷ []) [] old new
  begins here old new a =
      let r = begun names g t plan right laid has held holds (own_of (Some 0)) (own_none (Some 0)) here old new a in
      let at = r.2.0 in
      let run = at.run in
      let segment = weaves names g t plan forks_here 0 start (start ∷ []) start run.steps refl run.follows run.reads (λ k z lt e. absurd (omega (arith, lt))) in
      record {
        world = at.state ∷ [];
        text = r.0;
        segment = subst (λ l. Seg (start ∷ []) [] l (at.state ∷ [])) run.tells
            (subst (λ (z : State). Seg (start ∷ []) [] (own_trace names g t plan start (own_of (Some 0)) start run.steps) (z ∷ [])) run.comes segment);
        told = r.1;
        are = (([], empty, at.sits, r.2.1), tt);
      }

  -- One process goes on.
  pub goes_on : (i : ℕ) (s : State) (h : Here) (waits : List Wait) (by : Move) (n : Next) (calls : Option ℕ) (links links2 : List Link) (q : Process) (old new : List ℕ) → Sits plan g s h waits
      → weavers_in (slice_get g.spots h.pos) ≡ false → Stack links calls waits → next_here g t h waits by ≡ Some n
      → Moved names g t held (own_of (Some i)) h by n calls links links2 q old new → Went i s by links2 q old new
  goes_on i s h waits by n calls links links2 q old new sits env stack en m =
      on q.landing (m.stacks waits stack)
      (went names g t plan right laid has held holds (own_of (Some i)) (own_none (Some i)) s [] h waits (waits_after n waits) q.landing old old new by n
      ([], sym (append-nil old), (record { state = s; run = record { steps = []; follows = tt; reads = refl; tells = refl; comes = refl }; sits = sits }, env)) en
      (record { waiting = refl; lands = m.lands }))
    where
      made : (landing : Option Here) (state : State) (steps : List RunStep) (text : List ℕ) → q.landing ≡ landing → Follows problem t s steps → run_entries s steps ≡ by ∷ [] → state_after s steps ≡ state
          → own_trace names g t plan s (own_of (Some i)) s steps ≡ text → new ≡ old ++ text → LandingIs plan g links2 state q.calls landing → Went i s by links2 q old new
      made landing state steps text ep f r c tells e is = record {
        state = state;
        steps = steps;
        follows = f;
        reads = r;
        comes = c;
        told = e ∙ ap (λ l. old ++ l) (sym tells);
        is = subst (λ o. LandingIs plan g links2 state q.calls o) (sym ep) is;
      }

      by_landing : (landing : Option Here) → q.landing ≡ landing → Stack links2 q.calls (waits_after n waits)
          → RunSoFar names g t plan s (own_of (Some i)) (by ∷ []) landing (waits_after n waits) old new → Went i s by links2 q old new
      by_landing (Some h2) ep stack2 (text, e, at) =
          let run = at.0.run in
          made (Some h2) at.0.state run.steps text ep run.follows run.reads run.comes run.tells e (waits_after n waits, stack2, at.0.sits, at.1)
      by_landing None ep stack2 (text, e, at) =
          let run = at.run in
          made None at.state run.steps text ep run.follows run.reads run.comes run.tells e at.over

      on : (landing : Option Here) → Stack links2 q.calls (waits_after n waits) → RunSoFar names g t plan s (own_of (Some i)) (by ∷ []) q.landing (waits_after n waits) old new → Went i s by links2 q old new
      on landing stack2 r = by_landing q.landing refl stack2 r

  moved : (entries : List Entry) (ps ps2 : List Process) (links links2 : List Link) (old mid new : List ℕ) (i : ℕ) (by : Move) → Kept entries ps links old mid → (p q : Process) (h : Here) (n : Next)
      → slice_get ps i ≡ Some p → p.landing ≡ Some h → Flag h false → LeadsTo g t h p.calls links by (Some n) → AreKept links links2
      → Moved names g t held (own_of (Some i)) h by n p.calls links links2 q mid new → ps2 ≡ set ps i q → Kept (entries ++ entry_to i (Makes by) ∷ []) ps2 links2 old new
  moved entries ps ps2 links links2 old mid new i by k p q h n ep eh flag leads kept m e2 =
      let a = are_get plan g links ps k.world i p k.are ep in
      let s = a.0 in
      let at = subst (λ o. LandingIs plan g links s p.calls o) eh a.2 in
      let z = goes_on i s h at.0 by n p.calls links links2 q mid new at.2 at.3 at.1 (leads at.0 at.1) m in
      let rest = are_rest plan g right laid has links ps k.world k.are in
      let away = flagged s h at.0 false at.2 flag in
      let turn = turn_at plan g right laid has s h at.0 at.2 at.3 in
      let trace = own_trace names g t plan s (own_of (Some i)) s z.steps in
      let seg = subst (λ (x : State). Seg k.world (entry_to i (Makes by) ∷ []) trace (set k.world i x)) z.comes
      (moves_on names g t plan forks_here i s k.world s by z.steps a.1 rest away turn z.follows z.reads) in
      record {
        world = set k.world i z.state;
        text = k.text ++ trace;
        segment = then_on names problem t forks_here (start_world problem t) k.world (set k.world i z.state) entries (entry_to i (Makes by) ∷ []) k.text trace k.segment seg;
        told = z.told ∙ ap (λ l. l ++ trace) k.told ∙ append_assoc old k.text trace;
        are = subst (λ l. AllAre plan g links2 l (set k.world i z.state)) (sym e2) (are_set plan g links2 ps k.world i q z.state (are_kept plan g links links2 ps k.world kept k.are) z.is);
      }

  told_fork : (old text mid line one half two new : List ℕ) → mid ≡ old ++ text → half ≡ (mid ++ line) ++ one → new ≡ half ++ two → new ≡ old ++ (text ++ (line ++ (one ++ two)))
  told_fork old text mid line one half two new em eh en =
      en ∙ ap (λ l. l ++ two) eh ∙ append_assoc (mid ++ line) one two ∙ append_assoc mid line (one ++ two) ∙ ap (λ l. l ++ (line ++ (one ++ two))) em
      ∙ append_assoc old text (line ++ (one ++ two))

  forked : (entries : List Entry) (ps ps2 : List Process) (links mids links2 : List Link) (old mid half new : List ℕ) (i : ℕ) → Kept entries ps links old mid → (p q r : Process) (h : Here) (n m : Next)
      → slice_get ps i ≡ Some p → p.landing ≡ Some h → Flag h true → LeadsTo g t h p.calls links Right (Some n) → LeadsTo g t h p.calls links Left (Some m) → AreKept links mids → AreKept mids links2
      → Moved names g t held (own_of (Some i)) h Right n p.calls links mids q (mid ++ fork_line i (length ps)) half
      → Moved names g t held (own_of (Some (length ps))) h Left m p.calls mids links2 r half new → ps2 ≡ set ps i q ++ r ∷ [] → Kept (entries ++ entry_to i Forks ∷ []) ps2 links2 old new
  forked entries ps ps2 links mids links2 old mid half new i k p q r h n m ep eh flag right_leads left_leads kept kept2 mr ml e2 =
      let a = are_get plan g links ps k.world i p k.are ep in
      let s = a.0 in
      let at = subst (λ o. LandingIs plan g links s p.calls o) eh a.2 in
      let z = goes_on i s h at.0 Right n p.calls links mids q (mid ++ fork_line i (length ps)) half at.2 at.3 at.1 (right_leads at.0 at.1) mr in
      let y = goes_on (length ps) s h at.0 Left m p.calls mids links2 r half new at.2 at.3 (kept p.calls at.0 at.1) (left_leads at.0 at.1) ml in
      let rest = are_rest plan g right laid has links ps k.world k.are in
      let here = flagged s h at.0 true at.2 flag in
      let turn = turn_at plan g right laid has s h at.0 at.2 at.3 in
      let one = own_trace names g t plan s (own_of (Some i)) s z.steps in
      let two = own_trace names g t plan s (own_of (Some (length ps))) s y.steps in
      let line = fork_line i (length ps) in
      let len : length ps ≡ length k.world = are_length plan g links ps k.world k.are in
      let quiet = subst (λ (x : State). is_weavers_in x.board.phase ≡ false) (sym z.comes) (landing_rest plan g right laid has mids z.state q.calls q.landing z.is) in
      let w2 = set k.world i z.state ++ y.state ∷ [] in
      let seg = subst (λ c. Seg k.world (entry_to i Forks ∷ []) (fork_line i c ++ (one ++ own_trace names g t plan s (own_of (Some c)) s y.steps)) w2) (sym len)
      (subst (λ (x : State). Seg k.world (entry_to i Forks ∷ []) (fork_line i (length k.world) ++ (one ++ own_trace names g t plan s (own_of (Some (length k.world))) s y.steps))
      (set k.world i z.state ++ x ∷ [])) y.comes
      (subst (λ (x : State). Seg k.world (entry_to i Forks ∷ []) (fork_line i (length k.world) ++ (one ++ own_trace names g t plan s (own_of (Some (length k.world))) s y.steps))
      (set k.world i x ++ state_after s y.steps ∷ [])) z.comes
      (forks_on names g t plan forks_here i s k.world s z.steps y.steps a.1 rest here turn z.follows z.reads y.follows y.reads quiet))) in
      let both : AreKept links links2 = λ calls ws st. kept2 calls ws (kept calls ws st) in
      record {
        world = w2;
        text = k.text ++ (line ++ (one ++ two));
        segment = then_on names problem t forks_here (start_world problem t) k.world w2 entries (entry_to i Forks ∷ []) k.text (line ++ (one ++ two)) k.segment seg;
        told = told_fork old k.text mid line one half two new k.told z.told y.told;
        are = subst (λ l. AllAre plan g links2 l w2) (sym e2)
            (are_push plan g links2 (set ps i q) (set k.world i z.state) r y.state
            (are_set plan g links2 ps k.world i q z.state (are_kept plan g links links2 ps k.world both k.are) (landing_kept plan g mids links2 z.state q.calls q.landing kept2 z.is)) y.is);
      }

  -- One entry more.
  pub went_on : (entries : List Entry) (ps ps2 : List Process) (links links2 : List Link) (old mid new : List ℕ) (i : ℕ) (fork : Bool) (by : Move) → Kept entries ps links old mid
      → IsStep names g t held Flag i fork by ps ps2 links links2 mid new → Kept (entries ++ entry_to i (act_of fork by) ∷ []) ps2 links2 old new
  went_on entries ps ps2 links links2 old mid new i fork by k (moves p q h n ep eh flag ef leads kept m e2) =
      subst (λ b. Kept (entries ++ entry_to i (act_of b by) ∷ []) ps2 links2 old new) (sym ef) (moved entries ps ps2 links links2 old mid new i by k p q h n ep eh flag leads kept m e2)
  went_on entries ps ps2 links links2 old mid new i fork by k (forks mids half p q r h n m ep eh flag ef lr ll kept kept2 mr ml e2) =
      subst (λ b. Kept (entries ++ entry_to i (act_of b by) ∷ []) ps2 links2 old new) (sym ef)
      (forked entries ps ps2 links mids links2 old mid half new i k p q r h n m ep eh flag lr ll kept kept2 mr ml e2)

  -- An entry that is no step of the world.
  some_step : (w : World) (i : ℕ) (act : Act) (next : World) → WorldStep problem t forks_here w i act next → (z : State) × (m : Move) × (after : State) × (slice_get w i ≡ Some z) × WovenStep problem t z m after
  some_step w i (Makes by) next (z, after, gets, away, step, e) = (z, by, after, gets, step)
  some_step w i Forks next (z, parent, child, gets, here, step, left, e) = (z, Right, parent, gets, step)

  safe_at : (s : State) → (run : List State) × WovenRun problem t run × (reached problem t run ≡ s) → Safe problem t s
  safe_at s (run, h, e) =
      subst (λ z. Safe problem t z) e (record { meets = sound.meets run h; answers = λ m next turn mv. sound.answers run m next h turn mv; chooses = λ turn. sound.chooses run h turn })

  safe_after : (s next : State) (by : Move) → (run : List State) × WovenRun problem t run × (reached problem t run ≡ s) → WovenStep problem t s by next → Safe problem t next
  safe_after s next by (run, h, e) step =
      safe_at next (run ++ next ∷ [], goes_append problem t start run (next ∷ []) h ((by, subst (λ z. WovenStep problem t z by next) (sym e) step), tt), last_append start run next)

  no_move : (s : State) (h : Here) (waits : List Wait) (by : Move) → Sits plan g s h waits → weavers_in (slice_get g.spots h.pos) ≡ false
      → (run : List State) × WovenRun problem t run × (reached problem t run ≡ s) → next_here g t h waits by ≡ None → IsNoMove problem s.board by
  no_move s h waits by sits env run none =
      let sp = spot_of names g t plan right laid has held holds (own_of None) refl s h waits sits in
      moveless names g t plan right laid has held holds s h waits by sp.0 sits (safe_at s run) (λ next step. safe_after s next Refuse run step) sp.1 (sym (ap weavers_in sp.1) ∙ env)
      (sym (ap (option_and_then (λ x. next_of g t h waits x by)) sp.1) ∙ none)

  run_of : (entries : List Entry) (ps : List Process) (links : List Link) (old mid : List ℕ) (k : Kept entries ps links old mid) (i : ℕ) (s : State) → slice_get k.world i ≡ Some s
      → (run : List State) × WovenRun problem t run × (reached problem t run ≡ s)
  run_of entries ps links old mid k i s gets = process_run problem t forks_here k.world i s (k.segment.steps, k.segment.goes, k.segment.comes) gets

  other_act : (s : State) (w : World) (i : ℕ) (fork : Bool) (by : Move) (next : World) → slice_get w i ≡ Some s → at_fork forks_here s.board ≡ not fork → WorldStep problem t forks_here w i (act_of fork by) next → ⊥
  other_act s w i true by next gets e (z, parent, child, gz, here, step, left, e2) =
      let same = same_Some z s (sym gz ∙ gets) in
      let k : at_fork forks_here s.board ≡ true = subst (λ (x : State). at_fork forks_here x.board ≡ true) same here in
      let f : true ≡ false = sym k ∙ e in cc
  other_act s w i false by next gets e (z, after, gz, away, step, e2) =
      let same = same_Some z s (sym gz ∙ gets) in
      let k : at_fork forks_here s.board ≡ false = subst (λ (x : State). at_fork forks_here x.board ≡ false) same away in
      let f : false ≡ true = sym k ∙ e in cc

  pub no_step : (entries : List Entry) (ps : List Process) (links : List Link) (old mid : List ℕ) (i : ℕ) (fork : Bool) (by : Move) (k : Kept entries ps links old mid)
      → IsNone g t Flag i fork by ps links → IsNoStep problem t forks_here k.world (entry_to i (act_of fork by))
  no_step entries ps links old mid i fork by k (absent e) = λ next step.
      let z = some_step k.world i (act_of fork by) next step in none-some z.0 (sym (are_absent plan g links ps k.world i k.are e) ∙ z.3)
  no_step entries ps links old mid i fork by k (over p ep eo) = λ next step.
      let a = are_get plan g links ps k.world i p k.are ep in
      let z = some_step k.world i (act_of fork by) next step in
      let is = subst (λ o. LandingIs plan g links a.0 p.calls o) eo a.2 in
      let same = same_Some z.0 a.0 (sym z.3 ∙ a.1) in
      over_has_none problem z.0.board z.1 z.2.board (ap (λ (x : State). x.board.phase) same ∙ is) z.4.0
  no_step entries ps links old mid i fork by k (other p h ep eh flag) = λ next step.
      let a = are_get plan g links ps k.world i p k.are ep in
      let at = subst (λ o. LandingIs plan g links a.0 p.calls o) eh a.2 in
      other_act a.0 k.world i fork by next a.1 (flagged a.0 h at.0 (not fork) at.2 flag) step
  no_step entries ps links old mid i fork by k (stuck p h ep eh ef leads) = λ next step.
      let a = are_get plan g links ps k.world i p k.are ep in
      let at = subst (λ o. LandingIs plan g links a.0 p.calls o) eh a.2 in
      let none = no_move a.0 h at.0 by at.2 at.3 (run_of entries ps links old mid k i a.0 a.1) (leads at.0 at.1) in
      let st = subst (λ b. WorldStep problem t forks_here k.world i (act_of b by) next) ef step in
      let same = same_Some st.0 a.0 (sym st.2 ∙ a.1) in
      none st.1.board (subst (λ (x : State). WovenStep problem t x by st.1) same st.4).0
  no_step entries ps links old mid i fork by k (unforked p h ep eh ef leads) = λ next step.
      let a = are_get plan g links ps k.world i p k.are ep in
      let at = subst (λ o. LandingIs plan g links a.0 p.calls o) eh a.2 in
      let run = run_of entries ps links old mid k i a.0 a.1 in
      let st = subst (λ b. WorldStep problem t forks_here k.world i (act_of b by) next) ef step in
      let same = same_Some st.0 a.0 (sym st.3 ∙ a.1) in
      ⊎_elim (λ (l : LeadsTo g t h p.calls links Right None).
      no_move a.0 h at.0 Right at.2 at.3 run (l at.0 at.1) st.1.board (subst (λ (x : State). WovenStep problem t x Right st.1) same st.5).0)
      (λ (l : LeadsTo g t h p.calls links Left None).
      no_move a.0 h at.0 Left at.2 at.3 run (l at.0 at.1) st.2.board (subst (λ (x : State). WovenStep problem t x Left st.2) same st.6).0) leads

  -- The ends.
  pub done : (list : List Entry) (ps : List Process) (links : List Link) (old new : List ℕ) → Kept list ps links old new → TellsWorld problem names t forks_here list (Done (length ps)) old new
  done list ps links old new k =
      let s = k.segment in
      record {
        steps = s.steps;
        world = record {
          goes = s.goes;
          turns = s.turns;
          rests = ap weavers_first s.comes ∙ none_first k.world (are_rest plan g right laid has links ps k.world k.are);
          ends = (s.reads, are_length plan g links ps k.world k.are ∙ ap length (sym s.comes));
        };
        told = k.told ∙ ap (λ l. old ++ l) (sym s.tells);
      }

  pub bad : (list : List Entry) (n : ℕ) (ps : List Process) (links : List Link) (old new : List ℕ) (i : ℕ) (fork : Bool) (by : Move) → Kept (take n list) ps links old new
      → slice_get list n ≡ Some (entry_to i (act_of fork by)) → IsNone g t Flag i fork by ps links → TellsWorld problem names t forks_here list (BadStep n) old new
  bad list n ps links old new i fork by k here none =
      let s = k.segment in
      record {
        steps = s.steps;
        world = record {
          goes = s.goes;
          turns = s.turns;
          rests = ap weavers_first s.comes ∙ none_first k.world (are_rest plan g right laid has links ps k.world k.are);
          ends = (
            s.reads,
            (
              entry_to i (act_of fork by),
              here,
              subst (λ w. IsNoStep problem t forks_here w (entry_to i (act_of fork by))) (sym s.comes) (no_step (take n list) ps links old new i fork by k none),
            ),
          );
        };
        told = k.told ∙ ap (λ l. old ++ l) (sym s.tells);
      }
