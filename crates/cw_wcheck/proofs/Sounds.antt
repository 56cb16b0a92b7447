-- A table that meets the conditions is sound, over stacks of any depth.
use Rattle.std.proofs.Common.{◌≡◌, ◌≢◌, ◌⊎◌, ℕ, suc, ◌+◌, ◌≤◌, List, [], ◌∷◌, ◌++◌, length, Bool, true, false, cond, not, ◌&&◌, ◌||◌, Option, Some, None, is_some, option_map, refl, sym}
use Rattle.std.proofs.Common.{ap, ap₂, ◌∙◌, subst, inl, inr, ⊎_elim, arith}
use Rattle.std.specs.Prelude.{slice_get}
use Rattle.std.proofs.lemmas.Option.{none-some, same_Some}
use Rattle.cw_rights.specs.declared.capabilities.Caps.{Caps}
use Rattle.cw_rights.specs.declared.capabilities.Primitive.{Primitive}
use Rattle.cw_rights.specs.declared.capabilities.Primitive.TheVariants.{Split}
use Rattle.cw_rights.specs.Words.{Word}
use Rattle.cw_rights.specs.Policies.{IsBad, is_refusable, start_caps}
use Rattle.cw_certs.specs.declared.moves.Move.{Move}
use Rattle.cw_certs.specs.declared.moves.Move.TheVariants.{Skip, Try, Grant, Refuse, Stop}
use Rattle.cw_certs.specs.Tables.{Table, try_at}
use Rattle.cw_syntax.specs.Plans.{Label, Routine, Plan}
use Rattle.cw_syntax.specs.Frames.{Item, Todo, Frame, Way, pass, front, new_frame, PathFrom, stack_of}
use Rattle.cw_model.specs.Boards.{Problem, Phase, Visit, Asked, Refused, Free, FreeSplit, Over, Board, seam_in, primitives_in, onward, begin, letters, may_grant, landed, stepped}
use Rattle.cw_model.specs.Boards.{granted, passed_by, moved, Moves, Violates, Weaver, turn_of, IsWeavers, IsEnvironments, move_of}
use Rattle.cw_model.specs.Runs.{try_in, refused_with, stops, stays_where, stays_unless, memories, State, start_state, WovenStep, Goes, last, passed_in, passed, erased, NeverStops, Sound}
use Rattle.cw_game.specs.declared.spots.Spot.TheVariants.{Label as LabelSpot, Asked as AskedSpot}
use Rattle.cw_game.specs.Games.{AreStates, Game, can_stop_in, refuses_in, past_asked, Ret}
use Rattle.cw_game.specs.Places.{IsLaidOut}
use Rattle.cw_game.specs.Pairs.{is_live, leads, all_states}
use Rattle.cw_game.specs.Closed.{rows_ok, is_closed_table}
use Rattle.cw_game.specs.Standing.{Meaning}
use Rattle.cw_model.proofs.Moving.{way_is}
use Rattle.cw_game.proofs.Stands.{enters_at, stops_is}
use Rattle.cw_game.proofs.Truths.{not_true}
use Rattle.std.proofs.lemmas.Bool.{and_parts}
use Rattle.cw_model.proofs.Moving.{stops_after_refusal}
use Rattle.cw_wcheck.proofs.Kept.{rests, IsMeant, Kept, KeptOn, Hands, row_in, leads_to, asked_row, halted_some, advances, free_advances, split_advances, keeps}
use Rattle.cw_model.proofs.Running.{goes_append}
use Rattle.cw_wcheck.proofs.Runs.{never_append, erased_join, path_of, few}

module _ (Means : Meaning) (Ex : ℕ → List Ret → Type 0) (g : Game) (t : Table) (plan : Plan) (right : AreStates g.policy g.spots g.states Means) (laid : IsLaidOut plan g)
    (ok : rows_ok g t t.live ≡ true) (hands : Hands Means Ex g t) where
  abbrev pub problem : Problem
  problem = record { plan = plan; policy = g.policy }

  abbrev pub KeptAt : State → Type 0
  KeptAt s = Kept Means Ex g t s.board s.mems

  pub kept_along : (s : State) (run : List State) → KeptAt s → Goes problem t s run → KeptAt (last s run)
  kept_along s [] i h = i
  kept_along s (next ∷ run) i h = kept_along next run (keeps Means Ex g t plan right laid ok hands s h.0.0 next i h.0.1) h.1

  -- No board that is kept violates.
  safe_on : (stack : List Frame) (caps : Caps) (word : Word) (phase : Phase) (kept : List (Option Caps)) (ms : List ℕ) → KeptOn Means Ex g t stack caps word phase kept ms → phase ≡ Free
      → letters stack caps ≢ [] → IsBad g.policy (word ++ letters stack caps) → ⊥
  safe_on [] caps word phase kept ms i e some bad = some refl
  safe_on (frame ∷ frames) caps word (Visit n a later) kept ms i e some bad = cc
  safe_on (frame ∷ frames) caps word (Asked n a later) kept ms i e some bad = cc
  safe_on (frame ∷ frames) caps word (Refused n a later) kept ms i e some bad = cc
  safe_on (frame ∷ frames) caps word FreeSplit kept ms i e some bad = cc
  safe_on (frame ∷ frames) caps word Over kept ms i e some bad = cc
  safe_on (frame ∷ frames) caps word Free kept [] i e some bad = absurd i
  safe_on ((Todo (Label at mark j l s) ∷ is) ∷ frames) caps word Free kept (m ∷ ms) i e some bad =
      let w = i.3 in
      let n = w.2.0.2.1 in
      let r = and_parts (not (g.states.bad w.1 l)) _ (row_in Means Ex g t plan right laid ok hands w.0 m w.1 i.1 (LabelSpot j l n.0) w.3 w.4 n.1) in
      not_true (g.states.bad w.1 l) r.0 ((right.bad w.1 word caps l (w.0, j, n.0, n.1) w.2.1).1 bad)
  safe_on (_ ∷ frames) caps word Free kept (m ∷ ms) i e some bad = some refl

  pub safe : (s : State) → KeptAt s → Violates problem s.board → ⊥
  safe s i v = safe_on s.board.stack s.board.caps s.board.word s.board.phase s.board.kept s.mems i v.0 v.1 v.2

  -- Each move of the environment has its memories.
  pub answered_at : (s : State) (by : Move) (next : Board) → KeptAt s → IsEnvironments s.board → Moves problem s.board by next
      → (ms : List ℕ) × WovenStep problem t s by (record { board = next; mems = ms })
  answered_at s by next i e h = let k = advances Means Ex g t plan right laid ok hands s.board s.mems by next i e h.1 in (k.0, (h, k.1))

  -- The table has a move where it is the weaver's turn.
  abbrev Chosen : Board → Phase → List ℕ → Type 0
  Chosen b phase ms = (by : Move) × (next : Board) × (ns : List ℕ) × (moved problem b phase by ≡ Some next) × (memories problem t b ms phase by ≡ Some ns)

  refused_chosen : (frame : Frame) (frames : List Frame) (kept : List (Option Caps)) (caps : Caps) (word : Word) (i : ℕ) (a : Primitive) (later : List Primitive) (m : ℕ) (ms : List ℕ)
      → let b : Board = record { stack = frame ∷ frames; kept = kept; caps = caps; word = word; phase = Refused i a later } in KeptOn Means Ex g t (frame ∷ frames) caps word
      (Refused i a later) kept (m ∷ ms)
      → Chosen b (Refused i a later) (m ∷ ms)
  refused_chosen frame frames kept caps word i a later m ms iv =
      let b : Board = record { stack = frame ∷ frames; kept = kept; caps = caps; word = word; phase = Refused i a later } in
      let w = iv.3 in
      let p = w.0 in
      let q = w.1 in
      let s = w.2.1 in
      let c = past_asked g p q a iv.2 in
      let row =
      asked_row Means Ex g t plan right laid ok hands p m q iv.1 s.1 i a iv.2
      (row_in Means Ex g t plan right laid ok hands p m q iv.1 (AskedSpot s.1 i a) w.3 w.4 (ap (slice_get g.spots) w.2.2 ∙ s.4.1)) in
      let halts = stops_is Means g right (g.exit iv.0) frame caps word i a later w.2.0 q s w.2.3 ∙ w.2.4 in
      ⊎_elim
      (λ y. (
        Stop,
        record b { phase = Over },
        m ∷ ms,
        refl,
        ap (λ o. option_map (λ new. new ∷ ms) (stays_where (stops (try_in t o i m)) m)) s.2 ∙ ap
            (λ y. option_map (λ new. new ∷ ms) (stays_where y m)) y,
      ))
      (λ to. (Skip, passed_by b i later, to.0 ∷ ms, refl, ap (λ o. option_map (λ new. new ∷ ms) (refused_with t (try_in t o i m))) s.2 ∙ ap (option_map (λ new. new ∷ ms)) to.1))
      (halted_some Means Ex g t plan right laid ok hands (g.states.may_grant q a) (refuses_in g q a) (can_stop_in g q a) c.pos (p + 1) c.state q iv.1 (try_at t s.1 i m) row halts)

  chosen_on : (stack : List Frame) (caps : Caps) (word : Word) (phase : Phase) (kept : List (Option Caps)) (ms : List ℕ)
      → let b : Board = record { stack = stack; kept = kept; caps = caps; word = word; phase = phase } in KeptOn Means Ex g t stack caps word phase kept ms → turn_of phase ≡ Some Weaver
      → Chosen b phase ms
  chosen_on [] caps word (Visit n a later) kept ms i e = absurd i
  chosen_on [] caps word (Refused n a later) kept ms i e = absurd i
  chosen_on (frame ∷ frames) caps word (Refused n a later) kept [] i e = absurd i
  chosen_on (frame ∷ frames) caps word (Refused n a later) kept (m ∷ ms) i e = refused_chosen frame frames kept caps word n a later m ms i
  chosen_on (frame ∷ frames) caps word (Visit n a later) kept [] i e = absurd i
  chosen_on (frame ∷ frames) caps word (Visit n a later) kept (m ∷ ms) i e = by (is_some (try_in t (seam_in frame) n m)) refl
    where
      b : Board
      b = record { stack = frame ∷ frames; kept = kept; caps = caps; word = word; phase = Visit n a later }

      by : (yes : Bool) → is_some (try_in t (seam_in frame) n m) ≡ yes → Chosen b (Visit n a later) (m ∷ ms)
      by true e = (Try, record b { phase = Asked n a later }, m ∷ ms, refl, ap (λ y. option_map (λ new. new ∷ ms) (stays_where y m)) e)
      by false e = (Skip, passed_by b n later, m ∷ ms, refl, ap (λ y. option_map (λ new. new ∷ ms) (stays_unless y m)) e)
  chosen_on stack caps word (Asked n a later) kept ms i e = let w = same_Some _ _ e in cc
  chosen_on stack caps word Free kept ms i e = let w = same_Some _ _ e in cc
  chosen_on stack caps word FreeSplit kept ms i e = let w = same_Some _ _ e in cc
  chosen_on stack caps word Over kept ms i e = absurd (none-some _ e)

  pub chosen_at : (s : State) → KeptAt s → IsWeavers s.board → (by : Move) × (next : State) × WovenStep problem t s by next
  chosen_at s i e =
      let w = chosen_on s.board.stack s.board.caps s.board.word s.board.phase s.board.kept s.mems i e in
      (w.0, record { board = w.1; mems = w.2 }, ((safe s i, w.3), w.4))

  -- A run to the free phase of a front, which passes no item.
  abbrev IsFreed : Phase → Type 0
  IsFreed phase = (phase ≡ Free) ⊎ (phase ≡ FreeSplit)

  abbrev Frees : List Frame → State → Type 0
  Frees stack s = (run : List State) × Goes problem t s run × IsFreed (last s run).board.phase × ((last s run).board.stack ≡ stack) × (erased s run ≡ []) × NeverStops problem s run

  abbrev state_on : Frame → List Frame → List (Option Caps) → Caps → Word → Phase → List ℕ → State
  state_on frame frames kept caps word phase ms = record { board = record { stack = frame ∷ frames; kept = kept; caps = caps; word = word; phase = phase }; mems = ms }

  abbrev GoesOn : Frame → List Frame → List (Option Caps) → Word → ℕ → List Primitive → Type 0
  GoesOn frame frames kept word i later =
      (caps : Caps) (ms : List ℕ) → KeptAt (state_on frame frames kept caps word (onward i later) ms) → Frees (frame ∷ frames) (state_on frame frames kept caps word (onward i later) ms)

  -- a board at which nothing was refused has no stop
  unstopped : (b next : Board) (phase : Phase) → (phase ≡ Free) ⊎ (phase ≡ FreeSplit) → moved problem b phase Stop ≡ Some next → ⊥
  unstopped b next Free f e = none-some next e
  unstopped b next FreeSplit f e = none-some next e
  unstopped b next (Visit i a later) f e = absurd (none-some next e)
  unstopped b next (Asked i a later) f e = absurd (none-some next e)
  unstopped b next (Refused i a later) f e = absurd (⊎_elim (λ h. cc) (λ h. cc) f)
  unstopped b next Over f e = absurd (none-some next e)

  -- what may be granted is, and then the primitives after it are passed
  grant_frees : (frame : Frame) (frames : List Frame) (kept : List (Option Caps)) (caps : Caps) (word : Word) (i : ℕ) (a : Primitive) (later : List Primitive) (ms ns : List ℕ)
      → GoesOn frame frames kept word (suc i) later
      → let s = state_on frame frames kept caps word (Asked i a later) ms in let next = granted s.board i a later in KeptAt (record { board = next; mems = ns })
      → WovenStep problem t s Grant (record { board = next; mems = ns }) → Frees (frame ∷ frames) s
  grant_frees frame frames kept caps word i Split later ms ns go j step =
      (state_on frame frames kept caps word FreeSplit ns ∷ [], ((Grant, step), tt), inr refl, refl, refl, ((λ h. none-some _ h.1), tt))
  grant_frees frame frames kept caps word i a later ms ns go j step =
      let r = go _ ns j in
      (state_on frame frames kept _ word (onward (suc i) later) ns ∷ r.0, ((Grant, step), r.1), r.2, r.3, r.4, ((λ h. none-some _ h.1), r.5))

  cannot : (stop refusable granted : Bool) → granted ≡ false → (stop && (refusable && granted)) ≡ false
  cannot true true granted e = e
  cannot true false granted e = refl
  cannot false refusable granted e = refl

  asked_frees : (frame : Frame) (frames : List Frame) (kept : List (Option Caps)) (caps : Caps) (word : Word) (i : ℕ) (a : Primitive) (later : List Primitive) (ms : List ℕ)
      → GoesOn frame frames kept word (suc i) later → KeptAt (state_on frame frames kept caps word (Asked i a later) ms)
      → Frees (frame ∷ frames) (state_on frame frames kept caps word (Asked i a later) ms)
  asked_frees frame frames kept caps word i a later ms go iv = by (may_grant caps a) refl
    where
      s : State
      s = state_on frame frames kept caps word (Asked i a later) ms

      by : (yes : Bool) → may_grant caps a ≡ yes → Frees (frame ∷ frames) s
      by true e =
          let en = ap (λ y. cond y (Some (granted s.board i a later)) None) e in
          let k = advances Means Ex g t plan right laid ok hands s.board ms Grant (granted s.board i a later) iv refl en in
          grant_frees frame frames kept caps word i a later ms k.0 go k.2 ((safe s iv, en), k.1)
      by false e =
          let en : moved problem s.board (Asked i a later) Refuse ≡ Some (passed_by s.board i later) =
          ap₂ (λ y z. cond (not y || is_refusable g.policy a) (Some (record s.board { phase = cond z (Refused i a later) (onward (suc i) later) })) None) e
          (cannot g.policy.stop (is_refusable g.policy a) (may_grant caps a) e) in
          let k = advances Means Ex g t plan right laid ok hands s.board ms Refuse (passed_by s.board i later) iv refl en in
          let r = go caps k.0 k.2 in
          (record { board = passed_by s.board i later; mems = k.0 } ∷ r.0, ((Refuse, ((safe s iv, en), k.1)), r.1), r.2, r.3, r.4, ((λ h. none-some _ h.1), r.5))

  visit_frees : (frame : Frame) (frames : List Frame) (kept : List (Option Caps)) (caps : Caps) (word : Word) (i : ℕ) (a : Primitive) (later : List Primitive) (m : ℕ) (ms : List ℕ)
      → GoesOn frame frames kept word (suc i) later → KeptAt (state_on frame frames kept caps word (Visit i a later) (m ∷ ms))
      → Frees (frame ∷ frames) (state_on frame frames kept caps word (Visit i a later) (m ∷ ms))
  visit_frees frame frames kept caps word i a later m ms go iv = by (is_some (try_in t (seam_in frame) i m)) refl
    where
      s : State
      s = state_on frame frames kept caps word (Visit i a later) (m ∷ ms)

      by : (yes : Bool) → is_some (try_in t (seam_in frame) i m) ≡ yes → Frees (frame ∷ frames) s
      by true e =
          let next = state_on frame frames kept caps word (Asked i a later) (m ∷ ms) in
          let step : WovenStep problem t s Try next = ((safe s iv, refl), ap (λ y. option_map (λ new. new ∷ ms) (stays_where y m)) e) in
          let r = asked_frees frame frames kept caps word i a later (m ∷ ms) go (keeps Means Ex g t plan right laid ok hands s Try next iv step) in
          (next ∷ r.0, ((Try, step), r.1), r.2, r.3, r.4, ((λ h. none-some _ h.1), r.5))
      by false e =
          let next = state_on frame frames kept caps word (onward (suc i) later) (m ∷ ms) in
          let step : WovenStep problem t s Skip next = ((safe s iv, refl), ap (λ y. option_map (λ new. new ∷ ms) (stays_unless y m)) e) in
          let r = go caps (m ∷ ms) (keeps Means Ex g t plan right laid ok hands s Skip next iv step) in
          (next ∷ r.0, ((Skip, step), r.1), r.2, r.3, r.4, ((λ h. none-some _ h.1), r.5))

  frees : (frame : Frame) (frames : List Frame) (kept : List (Option Caps)) (word : Word) (later : List Primitive) (i : ℕ) → GoesOn frame frames kept word i later
  frees frame frames kept word [] i caps ms iv = ([], tt, inl refl, refl, refl, tt)
  frees frame frames kept word (a ∷ later) i caps [] iv = absurd iv
  frees frame frames kept word (a ∷ later) i caps (m ∷ ms) iv = visit_frees frame frames kept caps word i a later m ms (frees frame frames kept word later (suc i)) iv

  frees_from : (stack : List Frame) (kept : List (Option Caps)) (caps : Caps) (word : Word) (phase : Phase) (ms : List ℕ) (a : Item)
      → let s : State = record { board = record { stack = stack; kept = kept; caps = caps; word = word; phase = phase }; mems = ms } in KeptAt s → phase ≡ begin g.policy stack
      → front stack ≡ a ∷ [] → Frees stack s
  frees_from [] kept caps word phase ms a i e f = cc
  frees_from (frame ∷ frames) kept caps word phase ms a i e f =
      subst (λ y. KeptAt (state_on frame frames kept caps word y ms) → Frees (frame ∷ frames) (state_on frame frames kept caps word y ms)) (sym e)
      (λ j. frees frame frames kept word (primitives_in g.policy frame) 0 caps ms j) i

  -- Then each way on is taken.
  passes_on : (stack : List Frame) (kept : List (Option Caps)) (caps : Caps) (word : Word) (phase : Phase) (ms : List ℕ) (way : Way) (next : List Frame)
      → let b : Board = record { stack = stack; kept = kept; caps = caps; word = word; phase = phase } in Kept Means Ex g t b ms → IsFreed phase → pass plan stack way ≡ Some next
      → (b' : Board) × (ns : List ℕ) × (moved problem b phase (move_of way) ≡ Some b') × (memories problem t b ms phase (move_of way) ≡ Some ns) × Kept Means Ex g t b' ns × (b'.stack ≡ next)
      × (b'.phase ≡ begin g.policy next) × (passed_in phase stack ≡ front stack)
  passes_on stack kept caps word Free ms way next i e h =
      let b : Board = record { stack = stack; kept = kept; caps = caps; word = word; phase = Free } in
      let k = free_advances Means Ex g t plan right laid ok hands stack kept caps word ms way next i h in
      (landed problem None b way next, k.0, ap (stepped problem None b) (way_is way) ∙ ap (option_map (landed problem None b way)) h, k.1, k.2, refl, refl, refl)
  passes_on stack kept caps word FreeSplit ms way next i e h =
      let b : Board = record { stack = stack; kept = kept; caps = caps; word = word; phase = FreeSplit } in
      let k = split_advances Means Ex g t plan right laid ok hands stack kept caps word ms way next i h in
      (landed problem (Some caps) b way next, k.0, ap (stepped problem (Some caps) b) (way_is way) ∙ ap (option_map (landed problem (Some caps) b way)) h, k.1, k.2, refl, refl, refl)
  passes_on stack kept caps word (Visit n a later) ms way next i e h = absurd (⊎_elim (λ h. cc) (λ h. cc) e)
  passes_on stack kept caps word (Refused n a later) ms way next i e h = absurd (⊎_elim (λ h. cc) (λ h. cc) e)
  passes_on stack kept caps word (Asked n a later) ms way next i e h = absurd (⊎_elim (λ h. cc) (λ h. cc) e)
  passes_on stack kept caps word Over ms way next i e h = absurd (⊎_elim (λ h. cc) (λ h. cc) e)

  -- No path is lost.
  follows : (items : List Item) (s : State) → KeptAt s → s.board.phase ≡ begin g.policy s.board.stack → PathFrom plan s.board.stack items
      → (run : List State) × Goes problem t s run × NeverStops problem s run × (erased s run ≡ items)
  follows [] s i e h = ([], tt, tt, refl)
  follows (a ∷ items) s i e h =
      let f = frees_from s.board.stack s.board.kept s.board.caps s.board.word s.board.phase s.mems a i e h.2 in
      let u = last s f.0 in
      let j = kept_along s f.0 i f.1 in
      let p : pass plan u.board.stack h.0 ≡ Some h.1 = ap (λ stack. pass plan stack h.0) f.3 ∙ h.3 in
      let k = passes_on u.board.stack u.board.kept u.board.caps u.board.word u.board.phase u.mems h.0 h.1 j f.2 p in
      let next : State = record { board = k.0; mems = k.1 } in
      let step : WovenStep problem t u (move_of h.0) next = ((safe u j, k.2), k.3) in
      let r = follows items next k.4 (k.6 ∙ ap (begin g.policy) (sym k.5)) (subst (λ stack. PathFrom plan stack items) (sym k.5) h.4) in
      let here : passed u ≡ a ∷ [] = k.7 ∙ ap front f.3 ∙ h.2 in (
        f.0 ++ next ∷ r.0,
        goes_append problem t s f.0 (next ∷ r.0) f.1 ((move_of h.0, step), r.1),
        never_append problem s f.0 (next ∷ r.0) f.5 ((λ z. unstopped u.board next.board u.board.phase f.2 z.1), r.2),
        erased_join s f.0 r.0 next a items f.4 here r.3,
      )

  -- The start is kept.
  pub kept_start : leads t (g.entry g.main) t.start.0 g.states.start (all_states g) ≡ true → Ex (all_states g) [] → KeptAt (start_state problem t)
  kept_start h x = by (slice_get plan.routines plan.main) refl
    where
      l : (is_live t (g.entry g.main) t.start.0 ≡ true) × IsMeant Means Ex g t t.start.0 g.states.start (all_states g)
      l = leads_to Means Ex g t plan right laid ok hands (g.entry g.main) t.start.0 g.states.start (all_states g) h

      by : (o : Option Routine) → slice_get plan.routines plan.main ≡ o
          → let stack = stack_of (option_map (new_frame plan.main) o) in KeptOn Means Ex g t stack (start_caps g.policy) [] (begin g.policy stack) (None ∷ []) (t.start.0 ∷ [])
      by None e = tt
      by (Some r) e =
          let st = enters_at Means g right plan plan.main r (start_caps g.policy) [] g.states.start (laid.functions plan.main r e) right.begins in (
            plan.main,
            all_states g,
            [],
            (
              g.entry plan.main,
              g.states.start,
              rests Means g.spots g.policy (g.exit plan.main) (new_frame plan.main r) (start_caps g.policy) [] _
                  (g.entry plan.main) g.states.start st,
              subst (λ f. is_live t (g.entry f) t.start.0 ≡ true) (sym laid.main) l.0,
              l.1,
            ),
            x,
            tt,
          )

-- The theorem, for a policy of at most twelve limits.
sound_at : (Means : Meaning) (g : Game) (t : Table) (plan : Plan) → AreStates g.policy g.spots g.states Means → IsLaidOut plan g → is_closed_table g t ≡ true → length g.policy.limits ≤ 12
    → Sound (record { plan = plan; policy = g.policy }) t
sound_at Means g t plan right laid closed short =
    let Ex : ℕ → List Ret → Type 0 = λ e rets. Unit {0} in
    let hands : Hands Means Ex g t = λ p m q e j f n e2 split r rets word caps h l s n' o s2 x. tt in
    let c = and_parts (leads t (g.entry g.main) t.start.0 g.states.start (all_states g)) (rows_ok g t t.live) closed in
    let p : Problem = record { plan = plan; policy = g.policy } in
    let i = kept_start Means Ex g t plan right laid c.1 hands c.0 tt in
    let s = start_state p t in
    record {
      meets = λ run h v. safe Means Ex g t plan right laid c.1 hands (last s run) (kept_along Means Ex g t plan right laid c.1 hands s run i h) v;
      answers = λ run by next h e k. answered_at Means Ex g t plan right laid c.1 hands (last s run) by next (kept_along Means Ex g t plan right laid c.1 hands s run i h) e k;
      chooses = λ run h e. chosen_at Means Ex g t plan right laid c.1 hands (last s run) (kept_along Means Ex g t plan right laid c.1 hands s run i h) e;
      adds_none = λ run h. path_of p t s run h;
      loses_none = λ items h. follows Means Ex g t plan right laid c.1 hands items s i refl h;
      few_tries = λ run later h k e. let f = few p t run later h k e in omega (arith, f, short);
      stops_after_refusal = λ run stopped h k. stops_after_refusal p t run stopped h k;
    }

-- A table that meets the conditions is sound.
pub sound : (Means : Meaning) (p : Problem) (g : Game) (t : Table) → g.policy ≡ p.policy → AreStates g.policy g.spots g.states Means → IsLaidOut p.plan g → is_closed_table g t ≡ true
    → length p.policy.limits ≤ 12 → Sound p t
sound Means p g t e right laid closed short =
    subst (λ policy. length policy.limits ≤ 12 → Sound (record { plan = p.plan; policy = policy }) t) e (λ le. sound_at Means g t p.plan right laid closed le) short
