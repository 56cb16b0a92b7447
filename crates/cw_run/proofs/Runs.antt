-- A run as far as it has gone: its steps, the entries that were read, the text that was told, and where it is.
use Rattle.std.proofs.Common.{◌≡◌, ℕ, ◌+◌, List, [], ◌∷◌, ◌++◌, map, Bool, true, false, Option, Some, None, is_some, option_map, option_and_then, refl, sym, ap, ap₂, ◌∙◌, subst}
use Rattle.std.proofs.Common.{append-nil, append_assoc}
use Rattle.std.specs.Prelude.{slice_get}
use Rattle.std.proofs.lemmas.Option.{none-some, same_Some}
use Rattle.cw_core.specs.declared.ids.MemId.{MemId}
use Rattle.cw_rights.specs.declared.capabilities.Caps.{Caps}
use Rattle.cw_rights.specs.declared.capabilities.Primitive.{Primitive}
use Rattle.cw_rights.specs.Words.{Word}
use Rattle.cw_certs.specs.declared.moves.Move.{Move}
use Rattle.cw_certs.specs.declared.moves.Move.TheVariants.{Skip, Try, Refuse, On, Stop}
use Rattle.cw_certs.specs.declared.rows.TryRow.{TryRow}
use Rattle.cw_certs.specs.Tables.{Table, try_at, into_at, back_at, state_of}
use Rattle.cw_syntax.specs.Plans.{Plan}
use Rattle.cw_syntax.specs.Frames.{Frame}
use Rattle.cw_model.specs.Boards.{seam_in, Problem, Phase, Visit, Asked, Refused, Free, FreeSplit, Over, Board, Weaver, Environment, moved, turn_of}
use Rattle.cw_model.specs.Runs.{mem_in, try_of, try_in, refused_with, stays_where, stays_unless, memories, State, start_state, WovenStep, Goes, last, Sound}
use Rattle.cw_model.proofs.Moving.{board_on}
use Rattle.cw_game.specs.declared.spots.Spot.{Spot}
use Rattle.cw_game.specs.declared.spots.Spot.TheVariants.{Step as StepSpot, Branch, Exit, Visit as VisitSpot, Asked as AskedSpot, Label as LabelSpot, Open as OpenSpot}
use Rattle.cw_game.specs.declared.spots.Spot.TheVariants.{Close as CloseSpot, Call as CallSpot, SplitCall}
use Rattle.cw_game.specs.Games.{AreStates, Game, at_pair, leads_in, bad_in, weavers_in, resumed, returned}
use Rattle.cw_game.specs.Reached.{Reached}
use Rattle.cw_game.specs.Places.{IsLaidOut, HasRoutines}
use Rattle.cw_game.specs.Pairs.{call_spot, kept_at}
use Rattle.cw_game.specs.Standing.{StandsOn}
use Rattle.cw_game.specs.Together.{Together, by_move}
use Rattle.cw_game.proofs.Link.{Stands, party_of, turn_is, board_moves, environments_turn, weavers_turn}
use Rattle.cw_trace.specs.Lines.{try_line, stop_line}
use Rattle.cw_trace.specs.Traces.{Names, move_lines, reached_lines}
use Rattle.cw_trace.specs.Steps.{Step, Follows, state_after, entry_by, entries_of}
use Rattle.cw_trace.proofs.Grown.{follows_grown, state_grown, entries_grown}
use Rattle.cw_trace.specs.Told.{spot_lines, label_at}
use Rattle.cw_run.specs.Walks.{Here, Wait, ret_of, config_of, mems_of, landing, within, Next, To, Into, Back, Over as AllOver, Resumed, Stopped, at_pos}
use Rattle.cw_run.specs.Walks.{called, ended, going_on, refusing, asked, next_of, stop_lines, landing_of, waits_after, Rests, stays as rests_stays, tries as rests_tries, skips as rests_skips}
use Rattle.cw_run.proofs.Sees.{is_inner, Sees, sees_visit, sees_asked, sees_step, sees_branch, sees_label, sees_open, sees_close, sees_call, sees_split, sees_end, see, below, stays}
use Rattle.cw_run.proofs.Sits.{chained, Waiting, Least, Sits, Stepped, arrived, told_by, inner_step}
use Rattle.cw_lemmas.proofs.Options.{option_map_some as mapped}
use Rattle.cw_run.proofs.Calls.{Finishes, call_step, return_step, end_step}
use Rattle.cw_run.proofs.Refusals.{Refuses, Resumes, Stops, resume_step, stop_step}
use Rattle.cw_run.proofs.Moveless.{Safe}

-- what the weaver remembers after a skip and after a try
abbrev weaver_memory : Move → Bool → ℕ → Option ℕ
weaver_memory Skip tries m = stays_unless tries m
weaver_memory Try tries m = stays_where tries m
weaver_memory _ tries m = None

-- what a visit is at the front
record IsVisitHere (j i : ℕ) (a : Primitive) (frame : Frame) (phase : Phase) : Type 0 where
  pub later : List Primitive
  pub stage : ℕ
  pub what : Primitive
  pub is_phase : phase ≡ Visit stage what later
  pub is_stage : stage ≡ i
  pub is_seam : seam_in frame ≡ Some j

abbrev visit_key : Spot → ℕ × ℕ
visit_key (VisitSpot j i a) = (j, i)
visit_key s = (0, 0)

visit_here : (j i : ℕ) (a : Primitive) (frame : Frame) (phase : Phase) (spot : Spot) → spot ≡ VisitSpot j i a → Sees frame phase spot → IsVisitHere j i a frame phase
visit_here j i a frame _ _ e (sees_visit {frame = fr} {j = j2} {i = i2} {a = a2} {later = later} s) =
    let k = ap visit_key e in
    record { later = later; stage = i2; what = a2; is_phase = refl; is_stage = ap (λ (x : ℕ × ℕ). x.1) k; is_seam = s ∙ ap (λ (x : ℕ × ℕ). Some x.0) k }
visit_here j i a frame _ _ e (sees_asked s) = cc
visit_here j i a _ _ _ e (sees_step s) = cc
visit_here j i a _ _ _ e (sees_branch s) = cc
visit_here j i a _ _ _ e sees_label = cc
visit_here j i a _ _ _ e sees_open = cc
visit_here j i a _ _ _ e sees_close = cc
visit_here j i a _ _ _ e sees_call = cc
visit_here j i a _ _ _ e sees_split = cc
visit_here j i a _ _ _ e sees_end = cc

-- The states of a list of steps are a run, and the last of them is where it comes to.
goes_of : (p : Problem) (t : Table) (s : State) (steps : List Step) → Follows p t s steps → Goes p t s (map (λ step. step.next) steps)
goes_of p t s [] h = tt
goes_of p t s (step ∷ later) h = ((step.by, h.0), goes_of p t step.next later h.1)

last_of : (s : State) (steps : List Step) → last s (map (λ step. step.next) steps) ≡ state_after s steps
last_of s [] = refl
last_of s (step ∷ later) = last_of step.next later

pub safe_of : (p : Problem) (t : Table) → Sound p t → (steps : List Step) → Follows p t (start_state p t) steps → Safe p t (state_after (start_state p t) steps)
safe_of p t sound steps h =
    let run = map (λ (step : Step). step.next) steps in
    let w = goes_of p t (start_state p t) steps h in
    subst (λ s. Safe p t s) (last_of (start_state p t) steps)
    (record { meets = sound.meets run w; answers = λ m next e mv. sound.answers run m next w e mv; chooses = λ e. sound.chooses run w e })

module _ (names : Names) (g : Game) (t : Table) (plan : Plan) (from : State) (own : List ℕ → List ℕ) where
  abbrev problem_on : Problem
  problem_on = record { plan = plan; policy = g.policy }

  -- what a step tells, and what some steps tell: each line as `own` has it
  abbrev pub own_lines : Board → Move → Board → List ℕ
  own_lines b by next = own (move_lines names problem_on b b.phase by) ++ own (reached_lines names g.policy next next.phase)

  abbrev pub own_trace : State → List Step → List ℕ
  own_trace s [] = []
  own_trace s (step ∷ later) = own_lines s.board step.by step.next.board ++ own_trace step.next later

  pub own_grown : (s : State) (before : List Step) (last : Step)
      → own_trace s (before ++ last ∷ []) ≡ own_trace s before ++ own_lines (state_after s before).board last.by last.next.board
  own_grown s [] last = append-nil (own_lines s.board last.by last.next.board)
  own_grown s (one ∷ before) last =
      ap (λ l. own_lines s.board one.by one.next.board ++ l) (own_grown one.next before last)
      ∙ sym (append_assoc (own_lines s.board one.by one.next.board) (own_trace one.next before) (own_lines (state_after one.next before).board last.by last.next.board))

  -- The steps so far, with what they read and tell.
  pub record HasSteps (entries : List Move) (text : List ℕ) (s : State) : Type 0 where
    pub steps : List Step
    pub follows : Follows problem_on t from steps
    pub reads : entries_of from steps ≡ entries
    pub tells : own_trace from steps ≡ text
    pub comes : state_after from steps ≡ s

  pub record IsRunAt (entries : List Move) (text : List ℕ) (h : Here) (waits : List Wait) : Type 0 where
    pub state : State
    pub run : HasSteps entries text state
    pub sits : Sits plan g state h waits

  pub record IsOver (entries : List Move) (text : List ℕ) : Type 0 where
    pub state : State
    pub run : HasSteps entries text state
    pub over : state.board.phase ≡ Over

module _ (names : Names) (g : Game) (t : Table) (plan : Plan) (right : AreStates g.policy g.spots g.states (Reached g.policy g.spots g.states)) (laid : IsLaidOut plan g) (has : HasRoutines plan g)
    (held : ℕ → Caps) (holds : (q : ℕ) (w : Word) (c : Caps) → Reached g.policy g.spots g.states q w c → held q ≡ c) (from : State) (own : List ℕ → List ℕ) (own_none : own [] ≡ []) where
  abbrev pub problem : Problem
  problem = record { plan = plan; policy = g.policy }

  abbrev label : Here → List ℕ
  label h = own (label_at names g.policy (held h.state) (slice_get g.spots h.pos))

  abbrev StepTo : State → Move → List ℕ → Here → List Wait → Type 0
  StepTo s by lines to waits = Stepped names g t plan right laid has held holds s by lines to waits

  abbrev Has : List Move → List ℕ → State → Type 0
  Has entries text s = HasSteps names g t plan from own entries text s

  abbrev IsRun : List Move → List ℕ → Here → List Wait → Type 0
  IsRun entries text h waits = IsRunAt names g t plan from own entries text h waits

  abbrev step_by : Move → State → Step
  step_by by next = record { by = by; next = next }

  -- one step more
  pub grown : (entries : List Move) (text acted reached : List ℕ) (s next : State) (by : Move) → Has entries text s → WovenStep problem t s by next
      → move_lines names problem s.board s.board.phase by ≡ acted → reached_lines names g.policy next.board next.board.phase ≡ reached
      → Has (entries ++ entry_by (turn_of s.board.phase) by) (text ++ (own acted ++ own reached)) next
  grown entries text acted reached s next by h step e f =
      let one = step_by by next in
      record {
        steps = h.steps ++ one ∷ [];
        follows = follows_grown problem t from h.steps one h.follows (subst (λ z. WovenStep problem t z by next) (sym h.comes) step);
        reads = entries_grown from h.steps one ∙ ap₂ (λ l (z : State). l ++ entry_by (turn_of z.board.phase) by) h.reads h.comes;
        tells = own_grown names g t plan from own from h.steps one
            ∙ ap₂ (λ l (z : State). l ++ own_lines names g t plan from own z.board by next.board) h.tells h.comes
            ∙ ap₂ (λ l m. text ++ (own l ++ own m)) e f;
        comes = state_grown from h.steps one;
      }

  with_entry : (entries : List Move) (text : List ℕ) (s from : State) (by : Move) → turn_of from.board.phase ≡ Some Environment → Has (entries ++ entry_by (turn_of from.board.phase) by) text s
      → Has (entries ++ by ∷ []) text s
  with_entry entries text s from by e h = subst (λ o. Has (entries ++ entry_by o by) text s) e h

  without_entry : (entries : List Move) (text : List ℕ) (s from : State) (by : Move) → turn_of from.board.phase ≡ Some Weaver → Has (entries ++ entry_by (turn_of from.board.phase) by) text s
      → Has entries text s
  without_entry entries text s from by e h = subst (λ l. Has l text s) (append-nil entries) (subst (λ o. Has (entries ++ entry_by o by) text s) e h)

  abbrev label_of : Here → List ℕ
  label_of h = label_at names g.policy (held h.state) (slice_get g.spots h.pos)

  abbrev step_text : List ℕ → List ℕ → List ℕ → List ℕ
  step_text text lines more = text ++ (lines ++ more)

  -- the environment's step
  moved_on : (entries : List Move) (text lines : List ℕ) (s : State) (by : Move) (to : Here) (waits : List Wait) → turn_of s.board.phase ≡ Some Environment → Has entries text s
      → StepTo s by lines to waits
      → IsRun (entries ++ by ∷ []) (step_text text (own lines) (label to)) to waits
  moved_on entries text lines s by to waits turn h k =
      record { state = k.next; run = with_entry entries (step_text text (own lines) (label to)) k.next s by turn (grown entries text lines (label_of to) s k.next by h k.steps k.acts k.reaches); sits = k.sits }

  -- The weaver's steps.
  visited_on : (frame : Frame) (frames : List Frame) (kept : List (Option Caps)) (caps : Caps) (word : Word) (phase : Phase) (h : Here) (waits : List Wait) (j i : ℕ) (a : Primitive)
      (by : Move) (n : ℕ) → let b = board_on (frame ∷ frames) kept caps word phase in Together problem g b (config_of h waits) → StandsOn (Least g) g (frame ∷ frames) kept caps word phase h.pos h.state (map ret_of waits)
      → Waiting frames kept waits → slice_get g.spots h.pos ≡ Some (VisitSpot j i a)
      → leads_in g h.pos h.state (map ret_of waits) (Some (VisitSpot j i a)) by ≡ Some (at_pair n h.state (map ret_of waits))
      → ((stage : ℕ) (what : Primitive) (later : List Primitive) (b : Board)
      → memories problem t b (mems_of h waits) (Visit stage what later) by ≡ option_map (λ m. m ∷ map (λ (w : Wait). w.mem) waits)
      (weaver_memory by (is_some (try_of t b stage h.mem)) h.mem))
      → weaver_memory by (is_some (try_at t j i h.mem)) h.mem ≡ Some h.mem
      → StepTo (record { board = b; mems = mems_of h waits }) by [] (at_pos n h) waits
  visited_on frame frames kept caps word phase h waits j i a by n goes stands waiting es leads memory there =
      let b = board_on (frame ∷ frames) kept caps word phase in
      let c = config_of h waits in
      let rets = map ret_of waits in
      let ms : List ℕ = map (λ (w : Wait). w.mem) waits in
      let sn = see (Least g) g.spots g.policy (g.exit stands.0) frame caps word phase h.pos h.state stands.1 in
      let e : sn.0 ≡ VisitSpot j i a = same_Some sn.0 (VisitSpot j i a) (sym sn.1 ∙ es) in
      let v = visit_here j i a frame phase sn.0 e sn.2 in
      let sees : Sees frame phase (VisitSpot j i a) = subst (λ o. Sees frame phase o) e sn.2 in
      let good : bad_in g h.state (slice_get g.spots h.pos) ≡ false = ap (bad_in g h.state) es in
      let to = board_moves (Least g) g plan right laid has b c (at_pair n h.state rets) by stands good (ap (λ o. leads_in g h.pos h.state rets o by) es ∙ leads) in
      let stay = stays problem t frame frames kept caps word phase by (VisitSpot j i a) to.0 sees refl to.1.1 in
      let mem : memories problem t b (h.mem ∷ ms) phase by ≡ Some (h.mem ∷ ms) =
      ap (λ ph. memories problem t b (h.mem ∷ ms) ph by) v.is_phase ∙ memory v.stage v.what v.later b
      ∙ ap₂ (λ (o : Option ℕ) (stage : ℕ). option_map (λ m. m ∷ ms) (weaver_memory by (is_some (try_in t o stage h.mem)) h.mem)) v.is_seam v.is_stage
      ∙ ap (option_map (λ m. m ∷ ms)) there in
      record {
        next = record { board = to.0; mems = h.mem ∷ ms };
        steps = (to.1, mem);
        sits = record {
          goes = by_move b c by to.0 (at_pair n h.state rets) goes to.1 (ap (λ o. leads_in g h.pos h.state rets o by) es ∙ leads);
          stands = to.2;
          mems = refl;
          waiting = subst (λ f. Waiting f to.0.kept waits) (sym stay.0) (subst (λ k. Waiting frames k waits) (sym stay.1) waiting);
        };
        acts = told_by names g t plan right laid has held holds b h waits by (VisitSpot j i a) stands es;
        reaches = arrived names g t plan right laid has held holds to.0 (at_pos n h) waits to.2;
      }

  pub visited : (s : State) (h : Here) (waits : List Wait) (j i : ℕ) (a : Primitive) (by : Move) (n : ℕ) → Sits plan g s h waits → slice_get g.spots h.pos ≡ Some (VisitSpot j i a)
      → leads_in g h.pos h.state (map ret_of waits) (Some (VisitSpot j i a)) by ≡ Some (at_pair n h.state (map ret_of waits))
      → ((stage : ℕ) (what : Primitive) (later : List Primitive) (b : Board)
      → memories problem t b (mems_of h waits) (Visit stage what later) by ≡ option_map (λ m. m ∷ map (λ (w : Wait). w.mem) waits)
      (weaver_memory by (is_some (try_of t b stage h.mem)) h.mem))
      → weaver_memory by (is_some (try_at t j i h.mem)) h.mem ≡ Some h.mem → StepTo s by [] (at_pos n h) waits
  visited s h waits j i a by n sits es leads memory there =
      subst (λ ms. StepTo (record { board = s.board; mems = ms }) by [] (at_pos n h) waits) (sym sits.mems)
      (on s.board.stack s.board.kept s.board.caps s.board.word s.board.phase sits.goes sits.stands sits.waiting)
    where
      on : (stack : List Frame) (kept : List (Option Caps)) (caps : Caps) (word : Word) (phase : Phase) → Together problem g (board_on stack kept caps word phase) (config_of h waits)
          → StandsOn (Least g) g stack kept caps word phase h.pos h.state (map ret_of waits)
          → Waiting (below stack) kept waits → StepTo (record { board = board_on stack kept caps word phase; mems = mems_of h waits }) by [] (at_pos n h) waits
      on [] kept caps word phase goes stands waiting = absurd stands
      on (frame ∷ frames) kept caps word phase goes stands waiting = visited_on frame frames kept caps word phase h waits j i a by n goes stands waiting es leads memory there

  weaved : (entries : List Move) (text : List ℕ) (s : State) (h to : Here) (waits : List Wait) (by : Move) (j i : ℕ) (a : Primitive) → slice_get g.spots h.pos ≡ Some (VisitSpot j i a)
      → Stands (Least g) g s.board (config_of h waits) → Has entries (text ++ label h) s → StepTo s by [] to waits → IsRun entries (text ++ label to) to waits
  weaved entries text s h to waits by j i a es stands run k =
      let turn = weavers_turn (Least g) g plan right laid has s.board (config_of h waits) stands (ap weavers_in es) in
      let none : text ++ label h ≡ text = ap (λ o. text ++ own (label_at names g.policy (held h.state) o)) es ∙ ap (λ l. text ++ l) own_none ∙ append-nil text in
      let r = subst (λ l. Has entries l s) none run in
      let told = subst (λ l. Has (entries ++ entry_by (turn_of s.board.phase) by) (text ++ (l ++ label to)) k.next) own_none (grown entries text [] (label_of to) s k.next by r k.steps k.acts k.reaches) in
      record { state = k.next; run = without_entry entries (text ++ label to) k.next s by turn told; sits = k.sits }

  -- after a try it is the environment's turn
  tried_turn : (b next : Board) (phase : Phase) → moved problem b phase Try ≡ Some next → turn_of next.phase ≡ Some Environment
  tried_turn b next (Visit i a later) e = ap (λ (n : Board). turn_of n.phase) (sym (same_Some _ next e))
  tried_turn b next (Asked i a later) e = absurd (none-some next e)
  tried_turn b next (Refused i a later) e = absurd (none-some next e)
  tried_turn b next Free e = absurd (none-some next e)
  tried_turn b next FreeSplit e = absurd (none-some next e)
  tried_turn b next Over e = absurd (none-some next e)

  party_false : (yes : Bool) → Some (party_of yes) ≡ Some Environment → yes ≡ false
  party_false true e = let k = same_Some _ _ e in cc
  party_false false e = refl

  -- The weaver comes to rest, and then it isn't its turn.
  abbrev pub AtRest : List Move → List ℕ → Here → List Wait → Type 0
  AtRest entries text h waits = IsRun entries text h waits × (weavers_in (slice_get g.spots h.pos) ≡ false)

  rested_from : (entries : List Move) (text : List ℕ) (h : Here) (waits : List Wait) (p n : ℕ) → Rests g t h.mem p n → IsRun entries (text ++ label (at_pos p h)) (at_pos p h) waits
      → AtRest entries (text ++ label (at_pos n h)) (at_pos n h) waits
  rested_from entries text h waits _ _ (rests_stays p e) r = (r, e)
  rested_from entries text h waits _ _ (rests_tries p j i a es e) r =
      let step = visited r.state (at_pos p h) waits j i a Try (p + 1) r.sits es refl (λ stage what later b. refl) (ap (λ y. stays_where y h.mem) e) in (
        weaved entries text r.state (at_pos p h) (at_pos (p + 1) h) waits Try j i a es r.sits.stands r.run step,
        party_false (weavers_in (slice_get g.spots (p + 1)))
            (sym (turn_is (Least g) g plan right laid has step.next.board (config_of (at_pos (p + 1) h) waits) step.sits.stands)
            ∙ tried_turn r.state.board step.next.board r.state.board.phase step.steps.0.1),
      )
  rested_from entries text h waits _ _ (rests_skips p n j i a es e rest) r =
      rested_from entries text h waits (p + 2) n rest
      (weaved entries text r.state (at_pos p h) (at_pos (p + 2) h) waits Skip j i a es r.sits.stands r.run
      (visited r.state (at_pos p h) waits j i a Skip (p + 2) r.sits es refl (λ stage what later b. refl) (ap (λ y. stays_unless y h.mem) e)))

  pub rested : (entries : List Move) (text : List ℕ) (h here : Here) (waits : List Wait) → IsRun entries (text ++ label h) h waits → Rests g t h.mem h.pos here.pos → here ≡ at_pos here.pos h
      → AtRest entries (text ++ label here) here waits
  rested entries text h here waits r w e =
      subst (λ z. AtRest entries (text ++ label z) z waits) (sym e) (rested_from entries text h waits h.pos here.pos w r)

  -- a step after which nothing is reached
  quiet_grown : (entries : List Move) (text acted : List ℕ) (s next : State) (by : Move) → Has entries text s → WovenStep problem t s by next
      → move_lines names problem s.board s.board.phase by ≡ acted → reached_lines names g.policy next.board next.board.phase ≡ []
      → Has (entries ++ entry_by (turn_of s.board.phase) by) (text ++ own acted) next
  quiet_grown entries text acted s next by h step e f =
      subst (λ l. Has (entries ++ entry_by (turn_of s.board.phase) by) (text ++ l) next) (ap (λ l. own acted ++ l) own_none ∙ append-nil (own acted)) (grown entries text acted [] s next by h step e f)

  over_quiet : (s : State) → s.board.phase ≡ Over → reached_lines names g.policy s.board s.board.phase ≡ []
  over_quiet s e = ap (reached_lines names g.policy s.board) e

  -- Where a move of the environment leads.
  finished : (entries : List Move) (text lines : List ℕ) (s : State) (by : Move) → turn_of s.board.phase ≡ Some Environment → Has entries text s
      → Finishes names g t plan right laid has held holds s by lines → IsOver names g t plan from own (entries ++ by ∷ []) (text ++ own lines)
  finished entries text lines s by turn h k =
      record { state = k.next; run = with_entry entries (text ++ own lines) k.next s by turn (quiet_grown entries text lines s k.next by h k.steps k.acts (over_quiet k.next k.over)); over = k.over }

  -- what a refusal leaves, with the weaver's move after it
  refusal_grown : (entries : List Move) (text : List ℕ) (s : State) (j i : ℕ) (a : Primitive) → turn_of s.board.phase ≡ Some Environment → Has entries text s
      → (r : Refuses names g t plan right laid has held holds s j i a) → Has (entries ++ Refuse ∷ []) (text ++ own (try_line j i a false)) r.first
  refusal_grown entries text s j i a turn h r =
      with_entry entries _ r.first s Refuse turn (quiet_grown entries text (try_line j i a false) s r.first Refuse h r.refuses r.acts r.quiet)

  resumed_on : (entries : List Move) (text : List ℕ) (s : State) (j i : ℕ) (a : Primitive) (to : Here) (waits : List Wait) → turn_of s.board.phase ≡ Some Environment → Has entries text s
      → Resumes names g t plan right laid has held holds s j i a to waits → IsRun (entries ++ Refuse ∷ []) (step_text text (own (try_line j i a false)) (label to)) to waits
  resumed_on entries text s j i a to waits turn h k =
      let line = own (try_line j i a false) in
      let first = refusal_grown entries text s j i a turn h k.refusal in
      let all = entries ++ Refuse ∷ [] in
      let two = subst (λ l. Has (all ++ entry_by (turn_of k.refusal.first.board.phase) Skip) ((text ++ line) ++ (l ++ label to)) k.then.next) own_none
      (grown all (text ++ line) [] (label_of to) k.refusal.first k.then.next Skip first k.then.steps k.then.acts k.then.reaches) in
      let three = without_entry all ((text ++ line) ++ label to) k.then.next k.refusal.first Skip (ap turn_of k.refusal.is_refused) two in
      record { state = k.then.next; run = subst (λ l. Has all l k.then.next) (append_assoc text line (label to)) three; sits = k.then.sits }

  stopped_on : (entries : List Move) (text : List ℕ) (s : State) (j i : ℕ) (a : Primitive) → turn_of s.board.phase ≡ Some Environment → Has entries text s
      → Stops names g t plan right laid has held holds s j i a
      → IsOver names g t plan from own (entries ++ Refuse ∷ []) (step_text text (own (try_line j i a false)) (own (stop_line j)))
  stopped_on entries text s j i a turn h k =
      let line = own (try_line j i a false) in
      let first = refusal_grown entries text s j i a turn h k.refusal in
      let all = entries ++ Refuse ∷ [] in
      let halt = own (stop_line j) in
      let two = quiet_grown all (text ++ line) (stop_line j) k.refusal.first k.then.next Stop first k.then.steps k.then.acts (over_quiet k.then.next k.then.over) in
      let three = without_entry all ((text ++ line) ++ halt) k.then.next k.refusal.first Stop (ap turn_of k.refusal.is_refused) two in
      record { state = k.then.next; run = subst (λ l. Has all l k.then.next) (append_assoc text line halt) three; over = k.then.over }

  -- What holds at the next landing: the run goes on there, or is over.
  abbrev pub LeadsTo : List Move → List ℕ → List ℕ → Next → Option Here → List Wait → Type 0
  LeadsTo entries text lines n (Some to) waits = IsRun entries (text ++ (own lines ++ (stop_lines own n ++ label to))) to waits
  LeadsTo entries text lines n None waits = IsOver names g t plan from own entries (text ++ (own lines ++ stop_lines own n))

  abbrev Leads : List Move → List ℕ → Spot → Move → List Wait → Next → Type 0
  Leads entries text spot by waits n = LeadsTo (entries ++ by ∷ []) text (spot_lines names g.policy g.main spot by) n (landing_of n) (waits_after n waits)

  module _ (entries : List Move) (text : List ℕ) (h : Here) (waits : List Wait) (run : IsRun entries text h waits) where
    turn_here : (spot : Spot) → slice_get g.spots h.pos ≡ Some spot → weavers_in (Some spot) ≡ false → turn_of run.state.board.phase ≡ Some Environment
    turn_here spot es env = environments_turn (Least g) g plan right laid has run.state.board (config_of h waits) run.sits.stands (ap weavers_in es ∙ env)

    inner_leads : (spot : Spot) (by : Move) (n : Next) → slice_get g.spots h.pos ≡ Some spot → is_inner spot ≡ true → weavers_in (Some spot) ≡ false
        → option_map To (within g t h spot by) ≡ Some n → Leads entries text spot by waits n
    inner_leads spot by n es inner env e =
        let m = mapped To (within g t h spot by) n e in
        subst (λ z. Leads entries text spot by waits z) m.2
        (moved_on entries text (spot_lines names g.policy g.main spot by) run.state by m.0 waits (turn_here spot es env) run.run
        (inner_step names g t plan right laid has held holds run.state h waits by spot m.0 run.sits es inner env m.1))

    call_leads_to : (split : Bool) (j f n2 : ℕ) (by : Move) (n : Next) → slice_get g.spots h.pos ≡ Some (call_spot split j f n2)
        → called g t h j f n2 split by ≡ Some n → Leads entries text (call_spot split j f n2) by waits n
    call_leads_to split j f n2 On n es e =
        let m = mapped (λ m. Into (landing (g.entry f, h.state) m) (record { seam = j; split = split; back = n2; state = h.state; mem = h.mem }))
        (option_and_then (λ r. mem_in t r.callee) (into_at t j split h.mem)) n e in
        subst (λ z. Leads entries text (call_spot split j f n2) On waits z) m.2
        (moved_on entries text (spot_lines names g.policy g.main (call_spot split j f n2) On) run.state On (landing (g.entry f, h.state) m.0)
        (record { seam = j; split = split; back = n2; state = h.state; mem = h.mem } ∷ waits)
        (turn_here (call_spot split j f n2) es (no_visit split)) run.run
        (call_step names g t plan right laid has held holds run.state h waits split j f n2 m.0 run.sits es m.1))
      where
        no_visit : (split : Bool) → weavers_in (Some (call_spot split j f n2)) ≡ false
        no_visit true = refl
        no_visit false = refl
    call_leads_to split j f n2 _ n es e = absurd (none-some n e)

    refusal_leads : (j i : ℕ) (a : Primitive) (pair : ℕ × ℕ) (n : Next) → slice_get g.spots h.pos ≡ Some (AskedSpot j i a) → resumed g h.pos h.state ≡ Some pair
        → (row : Option TryRow) → try_at t j i h.mem ≡ row → refusing t j pair row ≡ Some n → Leads entries text (AskedSpot j i a) Refuse waits n
    refusal_leads j i a pair n es er None row e = absurd (none-some n e)
    refusal_leads j i a pair n es er (Some r) row e = by r.refused refl e
      where
        by : (o : Option MemId) → r.refused ≡ o → going_on t j pair o ≡ Some n → Leads entries text (AskedSpot j i a) Refuse waits n
        by None en e =
            subst (λ z. Leads entries text (AskedSpot j i a) Refuse waits z) (same_Some (Stopped j) n e)
            (stopped_on entries text run.state j i a (turn_here (AskedSpot j i a) es refl) run.run
            (stop_step names g t plan right laid has held holds run.state h waits j i a pair r run.sits es er row en))
        by (Some m0) en e =
            let m = mapped (λ n. Resumed (landing pair n)) (mem_in t m0) n e in
            let kept : refused_with t (try_at t j i h.mem) ≡ Some m.0 = ap (refused_with t) row ∙ ap (option_and_then (mem_in t)) en ∙ m.1 in
            subst (λ z. Leads entries text (AskedSpot j i a) Refuse waits z) m.2
            (resumed_on entries text run.state j i a (landing pair m.0) waits (turn_here (AskedSpot j i a) es refl) run.run
            (resume_step names g t plan right laid has held holds run.state h waits j i m.0 a pair run.sits es er kept))

    asked_leads : (j i : ℕ) (a : Primitive) (by : Move) (n : Next) → slice_get g.spots h.pos ≡ Some (AskedSpot j i a) → (o : Option (ℕ × ℕ)) → resumed g h.pos h.state ≡ o
        → asked g t h (AskedSpot j i a) j i by o ≡ Some n → Leads entries text (AskedSpot j i a) by waits n
    asked_leads j i a Refuse n es (Some pair) er e = refusal_leads j i a pair n es er (try_at t j i h.mem) refl e
    asked_leads j i a Refuse n es None er e = inner_leads (AskedSpot j i a) Refuse n es refl refl e
    asked_leads j i a by n es o er e = inner_leads (AskedSpot j i a) by n es refl refl e

  end_leads : (entries : List Move) (text : List ℕ) (h : Here) (waits : List Wait) → IsRun entries text h waits → (f : ℕ) (by : Move) (n : Next) → slice_get g.spots h.pos ≡ Some (Exit f)
      → ended g t h waits by ≡ Some n → Leads entries text (Exit f) by waits n
  end_leads entries text h [] run f On n es e =
      subst (λ z. Leads entries text (Exit f) On [] z) (same_Some AllOver n e)
      (subst (λ l. IsOver names g t plan from own (entries ++ On ∷ []) (text ++ l)) (sym (append-nil (own (spot_lines names g.policy g.main (Exit f) On))))
      (finished entries text (spot_lines names g.policy g.main (Exit f) On) run.state On (turn_here entries text h [] run (Exit f) es refl) run.run
      (end_step names g t plan right laid has held holds run.state h f run.sits es)))
  end_leads entries text h (w ∷ waits) run f On n es e =
      let x = chained (λ exit. option_map (λ m. Back (landing (w.back, returned g.states (kept_at w.split w.state) h.state) m))
      (option_and_then (λ r. mem_in t r.after) (back_at t w.seam w.split w.mem exit))) (state_of t h.mem) n e in
      let m = mapped (λ m. Back (landing (w.back, returned g.states (kept_at w.split w.state) h.state) m))
      (option_and_then (λ r. mem_in t r.after) (back_at t w.seam w.split w.mem x.0)) n x.2 in
      subst (λ z. Leads entries text (Exit f) On (w ∷ waits) z) m.2
      (moved_on entries text (spot_lines names g.policy g.main (Exit f) On) run.state On (landing (w.back, returned g.states (kept_at w.split w.state) h.state) m.0) waits
      (turn_here entries text h (w ∷ waits) run (Exit f) es refl) run.run
      (return_step names g t plan right laid has held holds run.state h w waits f x.0 m.0 run.sits es x.1 m.1))
  end_leads entries text h waits run f _ n es e = absurd (none-some n e)

  -- A move that is found leads on.
  pub leads_on : (entries : List Move) (text : List ℕ) (h : Here) (waits : List Wait) → IsRun entries text h waits → (spot : Spot) (by : Move) (n : Next)
      → slice_get g.spots h.pos ≡ Some spot → weavers_in (Some spot) ≡ false → next_of g t h waits spot by ≡ Some n → Leads entries text spot by waits n
  leads_on entries text h waits run (CallSpot j f n2) by n es env e = call_leads_to entries text h waits run false j f n2 by n es e
  leads_on entries text h waits run (SplitCall j f n2) by n es env e = call_leads_to entries text h waits run true j f n2 by n es e
  leads_on entries text h waits run (Exit f) by n es env e = end_leads entries text h waits run f by n es e
  leads_on entries text h waits run (AskedSpot j i a) by n es env e = asked_leads entries text h waits run j i a by n es (resumed g h.pos h.state) refl e
  leads_on entries text h waits run (VisitSpot j i a) by n es env e = cc
  leads_on entries text h waits run (StepSpot k) by n es env e = inner_leads entries text h waits run (StepSpot k) by n es refl refl e
  leads_on entries text h waits run (Branch l r) by n es env e = inner_leads entries text h waits run (Branch l r) by n es refl refl e
  leads_on entries text h waits run (LabelSpot j l k) by n es env e = inner_leads entries text h waits run (LabelSpot j l k) by n es refl refl e
  leads_on entries text h waits run (OpenSpot j d k) by n es env e = inner_leads entries text h waits run (OpenSpot j d k) by n es refl refl e
  leads_on entries text h waits run (CloseSpot j d k) by n es env e = inner_leads entries text h waits run (CloseSpot j d k) by n es refl refl e
