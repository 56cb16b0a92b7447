-- Where the game and the table have no move, the board has none: the table is sound.
use Rattle.std.proofs.Common.{◌≡◌, ℕ, ◌+◌, List, [], ◌∷◌, map, Bool, true, false, cond, not, ◌||◌, Option, Some, None, is_some, option_map, option_and_then, refl, sym, ap}
use Rattle.std.proofs.Common.{ap₂, ◌∙◌, subst}
use Rattle.std.specs.Prelude.{slice_get}
use Rattle.std.proofs.lemmas.Option.{none-some, same_Some}
use Rattle.cw_core.specs.declared.ids.MemId.{MemId}
use Rattle.cw_rights.specs.declared.capabilities.Caps.{Caps}
use Rattle.cw_rights.specs.declared.capabilities.Primitive.{Primitive}
use Rattle.cw_rights.specs.Words.{Word}
use Rattle.cw_rights.specs.Policies.{PlainPolicy}
use Rattle.cw_certs.specs.declared.moves.Move.{Move}
use Rattle.cw_certs.specs.declared.moves.Move.TheVariants.{Skip, Refuse, On, Stop}
use Rattle.cw_certs.specs.declared.rows.TryRow.{TryRow}
use Rattle.cw_certs.specs.Tables.{Table, into_at, back_at, try_at, state_of}
use Rattle.cw_syntax.specs.Plans.{Callee, Call, Plan}
use Rattle.cw_syntax.specs.Frames.{Todo, Frame}
use Rattle.cw_model.specs.Boards.{Problem, Phase, Asked, Refused, Board, Environment, moved, Moves, Violates, stop_answers, turn_of, IsWeavers, IsEnvironments}
use Rattle.cw_model.specs.Runs.{front_seam, try_of, mem_in, try_in, refused_with, stops, stays_where, returned_with, memories, State, WovenStep}
use Rattle.cw_model.proofs.Moving.{board_on}
use Rattle.cw_game.specs.declared.spots.Spot.{Spot}
use Rattle.cw_game.specs.declared.spots.Spot.TheVariants.{Step, Branch, Exit, Visit as VisitSpot, Asked as AskedSpot, Label as LabelSpot, Open as OpenSpot, Close as CloseSpot}
use Rattle.cw_game.specs.declared.spots.Spot.TheVariants.{Call as CallSpot, SplitCall}
use Rattle.cw_game.specs.Games.{AreStates, Game, Ret, Config, leads_in, leads_to, bad_in, weavers_in, can_stop_in, resumed, resumed_in, returned}
use Rattle.cw_game.specs.Reached.{Reached}
use Rattle.cw_game.specs.Places.{IsLaidOut, HasRoutines}
use Rattle.cw_game.specs.Pairs.{Called, call_in, is_call_in, is_exit_in, call_spot, kept_at}
use Rattle.cw_game.specs.Standing.{StandsOn, StandsAt, IsGameOf}
use Rattle.cw_game.specs.Laws.{AreLinked}
use Rattle.cw_game.proofs.Linking.{linked}
use Rattle.cw_game.proofs.Stands.{stops_is}
use Rattle.cw_game.proofs.Link.{Stands, bad_violates, environments_turn, unrefused}
use Rattle.cw_product.specs.Moves.{pair_of, is_left_in, next_in, next_at}
use Rattle.cw_trace.specs.Traces.{Names}
use Rattle.cw_trace.specs.Steps.{IsNoMove}
use Rattle.cw_run.specs.Walks.{Here, Wait, ret_of, config_of, mems_of, landing, mem_after, within, To, Over as AllOver, Back, Stopped, called, returning, ended, going_on, refusing, asked, next_of}
use Rattle.cw_run.proofs.Sees.{Sees, see, is_inner, below, remembered}
use Rattle.cw_run.proofs.Sits.{same_lead, with_rets, Waiting, Least, Sits}
use Rattle.cw_lemmas.proofs.Options.{option_map_some as mapped, option_map_none}
use Rattle.cw_run.proofs.Calls.{call_here, called_memory, end_here}
use Rattle.cw_run.proofs.Refusals.{refusal_step, asked_here}
use Rattle.std.proofs.lemmas.Bool.{or_from as no_or}
use Rattle.cw_game.proofs.Linking.{steady}

inner_calls : (s : Spot) → is_inner s ≡ true → (is_call_in (Some s) || is_exit_in (Some s)) ≡ false
inner_calls (CallSpot j f n) e = cc
inner_calls (SplitCall j f n) e = cc
inner_calls (Exit f) e = cc
inner_calls _ e = refl

inner_no_exit : (s : Spot) (f : ℕ) → is_inner s ≡ true → s ≡ Exit f → ⊥
inner_no_exit s f inner e = let k : false ≡ true = sym (ap is_inner e) ∙ inner in cc

-- What is known of each state of a run of a sound table.
pub record Safe (p : Problem) (t : Table) (s : State) : Type 0 where
  pub meets : Violates p s.board → ⊥
  pub answers : (m : Move) (next : Board) → IsEnvironments s.board → Moves p s.board m next → (ms : List ℕ) × WovenStep p t s m (record { board = next; mems = ms })
  pub chooses : IsWeavers s.board → (m : Move) × (next : State) × WovenStep p t s m next

module _ (names : Names) (g : Game) (t : Table) (plan : Plan) (right : AreStates g.policy g.spots g.states (Reached g.policy g.spots g.states)) (laid : IsLaidOut plan g) (has : HasRoutines plan g)
    (held : ℕ → Caps) (holds : (q : ℕ) (w : Word) (c : Caps) → Reached g.policy g.spots g.states q w c → held q ≡ c) where
  abbrev problem : Problem
  problem = record { plan = plan; policy = g.policy }

  is_game : IsGameOf problem g
  is_game = record { policy = refl; states = right; laid = laid; routines = has }

  link : AreLinked problem g
  link = linked problem g is_game

  stands_at : (b : Board) (c : Config) → Stands (Least g) g b c → StandsAt g b c
  stands_at b c h = subst (λ y. StandsOn (Least g) g b.stack b.kept b.caps b.word y c.pos c.state c.rets) (sym (steady b.phase (unrefused (Least g) g plan right laid has b c h))) h

  good_of : (s : State) (c : Config) → Safe problem t s → Stands (Least g) g s.board c → bad_in g c.state (slice_get g.spots c.pos) ≡ false
  good_of s c safe stands = by (bad_in g c.state (slice_get g.spots c.pos)) refl
    where
      by : (yes : Bool) → bad_in g c.state (slice_get g.spots c.pos) ≡ yes → bad_in g c.state (slice_get g.spots c.pos) ≡ false
      by true e = absurd (safe.meets (bad_violates (Least g) g plan right laid has s.board c stands e))
      by false e = e

  -- Within a function.
  leads_pair : (h : Here) (waits : List Wait) (by : Move) (spot : Spot) (d : Config) → slice_get g.spots h.pos ≡ Some spot → is_inner spot ≡ true
      → bad_in g h.state (slice_get g.spots h.pos) ≡ false → leads_to g (config_of h waits) by ≡ Some d → (pair : ℕ × ℕ) × (next_at g h.pos h.state by ≡ Some pair)
  leads_pair h waits by spot d es inner good e =
      let rets = map ret_of waits in
      let l : leads_in g h.pos h.state rets (Some spot) by ≡ Some d = sym (ap (λ o. leads_in g h.pos h.state rets o by) es) ∙ e in
      let c = mapped (with_rets rets) (leads_in g h.pos h.state [] (Some spot) by) d (sym (same_lead g h.pos h.state rets spot by inner) ∙ l) in
      let bad : bad_in g h.state (Some spot) ≡ false = sym (ap (bad_in g h.state) es) ∙ good in
      let left : is_left_in g h.state (Some spot) ≡ false = no_or (bad_in g h.state (Some spot)) _ bad (inner_calls spot inner) in (
        pair_of c.0,
        ap (λ o. next_in g h.pos h.state o by) es ∙ ap (λ b. cond b None (option_map pair_of (leads_in g h.pos h.state [] (Some spot) by))) left ∙ ap (option_map pair_of) c.1,
      )

  memory_on : (frame : Frame) (frames : List Frame) (kept : List (Option Caps)) (caps : Caps) (word : Word) (phase : Phase) (h : Here) (waits : List Wait) (by : Move) (spot : Spot)
      → let b = board_on (frame ∷ frames) kept caps word phase in StandsOn (Least g) g (frame ∷ frames) kept caps word phase h.pos h.state (map ret_of waits)
      → slice_get g.spots h.pos ≡ Some spot → is_inner spot ≡ true → turn_of phase ≡ Some Environment → stop_answers g.policy caps phase by ≡ false
      → memories problem t b (mems_of h waits) phase by ≡ option_map (λ n. n ∷ map (λ (w : Wait). w.mem) waits) (mem_after t h.mem spot by)
  memory_on frame frames kept caps word phase h waits by spot stands es inner turn never =
      let sn = see (Least g) g.spots g.policy (g.exit stands.0) frame caps word phase h.pos h.state stands.1 in
      let sees : Sees frame phase spot = subst (λ o. Sees frame phase o) (same_Some sn.0 spot (sym sn.1 ∙ es)) sn.2 in
      remembered problem t frame frames kept caps word phase by spot h.mem (map (λ (w : Wait). w.mem) waits) sees inner turn never

  memory_is : (b : Board) (h : Here) (waits : List Wait) (by : Move) (spot : Spot) → Stands (Least g) g b (config_of h waits)
      → slice_get g.spots h.pos ≡ Some spot → is_inner spot ≡ true → turn_of b.phase ≡ Some Environment → stop_answers g.policy b.caps b.phase by ≡ false
      → memories problem t b (mems_of h waits) b.phase by ≡ option_map (λ n. n ∷ map (λ (w : Wait). w.mem) waits) (mem_after t h.mem spot by)
  memory_is b h waits by spot stands es inner turn never = on b.stack b.kept b.caps b.word b.phase stands turn never
    where
      on : (stack : List Frame) (kept : List (Option Caps)) (caps : Caps) (word : Word) (phase : Phase) → StandsOn (Least g) g stack kept caps word phase h.pos h.state (map ret_of waits)
          → turn_of phase ≡ Some Environment → stop_answers g.policy caps phase by ≡ false
          → memories problem t (board_on stack kept caps word phase) (mems_of h waits) phase by ≡ option_map (λ n. n ∷ map (λ (w : Wait). w.mem) waits) (mem_after t h.mem spot by)
      on [] kept caps word phase stands turn never = absurd stands
      on (frame ∷ frames) kept caps word phase stands turn never = memory_on frame frames kept caps word phase h waits by spot stands es inner turn never

  -- the memories of a step of a safe state are there
  there : (s : State) (by : Move) (next : Board) (ms : List ℕ) → Safe problem t s → s.mems ≡ ms → turn_of s.board.phase ≡ Some Environment → Moves problem s.board by next
      → memories problem t s.board ms s.board.phase by ≡ None → ⊥
  there s by next ms safe em turn mv none =
      let a = safe.answers by next turn mv in
      none-some a.0 (sym none ∙ ap (λ l. memories problem t s.board l s.board.phase by) (sym em) ∙ a.1.1)

  inner_moveless : (s : State) (h : Here) (waits : List Wait) (by : Move) (spot : Spot) → Sits plan g s h waits → Safe problem t s → slice_get g.spots h.pos ≡ Some spot → is_inner spot ≡ true
      → weavers_in (Some spot) ≡ false → stop_answers g.policy s.board.caps s.board.phase by ≡ false → within g t h spot by ≡ None → IsNoMove problem s.board by
  inner_moveless s h waits by spot sits safe es inner env never none = λ next mv.
      let c = config_of h waits in
      let good = good_of s c safe sits.stands in
      let tie = link.moves s.board c by (stands_at s.board c sits.stands) (unrefused (Least g) g plan right laid has s.board c sits.stands) good
      (λ l. inner_no_exit spot l.0 inner (same_Some spot (Exit l.0) (sym es ∙ l.1))) never in
      let d = tie.to_pair next mv in
      let pair = leads_pair h waits by spot d.0 es inner good d.1 in
      let lost : mem_after t h.mem spot by ≡ None =
      option_map_none (landing pair.0) (mem_after t h.mem spot by) (sym (ap (option_and_then (λ (r : ℕ × ℕ). option_map (landing r) (mem_after t h.mem spot by))) pair.1) ∙ none) in
      let turn = environments_turn (Least g) g plan right laid has s.board c sits.stands (ap weavers_in es ∙ env) in
      there s by next (mems_of h waits) safe sits.mems turn mv
      (memory_is s.board h waits by spot sits.stands es inner turn never ∙ ap (option_map (λ n. n ∷ map (λ (w : Wait). w.mem) waits)) lost)

  -- no stop answers a move at a position where nothing is asked, and where none can no stop answers a refusal
  unasked_on : (stack : List Frame) (kept : List (Option Caps)) (caps : Caps) (word : Word) (phase : Phase) (p q : ℕ) (rets : List Ret) (by : Move) (spot : Spot)
      → StandsOn (Least g) g stack kept caps word phase p q rets → slice_get g.spots p ≡ Some spot → ((j i : ℕ) (a : Primitive) → spot ≡ AskedSpot j i a → ⊥)
      → stop_answers g.policy caps phase by ≡ false
  unasked_on [] kept caps word phase p q rets by spot h es unasked = absurd h
  unasked_on (frame ∷ frames) kept caps word (Asked i a later) p q rets by spot h es unasked =
      absurd (unasked h.1.1.1 i a (same_Some spot (AskedSpot h.1.1.1 i a) (sym es ∙ ap (slice_get g.spots) h.1.2 ∙ h.1.1.4.1)))
  unasked_on (frame ∷ frames) kept caps word _ p q rets by spot h es unasked = refl

  asked_never : (stack : List Frame) (kept : List (Option Caps)) (caps : Caps) (word : Word) (phase : Phase) (p q : ℕ) (rets : List Ret)
      → StandsOn (Least g) g stack kept caps word phase p q rets → resumed g p q ≡ None → stop_answers g.policy caps phase Refuse ≡ false
  asked_never [] kept caps word phase p q rets h e = absurd h
  asked_never (frame ∷ frames) kept caps word (Asked i a later) p q rets h e =
      let w = h.1 in
      let es = ap (slice_get g.spots) w.2 ∙ w.1.4.1 in
      sym (stops_is (Least g) g right (g.exit h.0) frame caps word i a later w.0 q w.1 w.3) ∙ never (can_stop_in g q a) (sym (ap (resumed_in g p q) es) ∙ e)
    where
      never : (yes : Bool) → cond {A = Option (ℕ × ℕ)} yes (Some (p + 1, q)) None ≡ None → yes ≡ false
      never true e = absurd (none-some (p + 1, q) (sym e))
      never false e = refl
  asked_never (frame ∷ frames) kept caps word _ p q rets h e = refl

  only_refusals : (policy : PlainPolicy) (caps : Caps) (phase : Phase) (by : Move) → (by ≡ Refuse → ⊥) → stop_answers policy caps phase by ≡ false
  only_refusals policy caps (Asked i a later) Refuse other = absurd (other refl)
  only_refusals policy caps _ _ other = refl

  -- A call: the one move is On, and its row is there.
  call_moveless : (s : State) (h : Here) (waits : List Wait) (by : Move) (split : Bool) (j f n : ℕ) → Sits plan g s h waits → Safe problem t s
      → slice_get g.spots h.pos ≡ Some (call_spot split j f n) → called g t h j f n split by ≡ None → IsNoMove problem s.board by
  call_moveless s h waits by split j f n sits safe es none = λ next mv.
      let c = config_of h waits in
      let call : Called = record { seam = j; function = f; back = n; split = split } in
      let k = link.calls s.board c call by next (stands_at s.board c sits.stands) (unrefused (Least g) g plan right laid has s.board c sits.stands)
      (ap call_in es ∙ is_call split) mv in
      let turn = environments_turn (Least g) g plan right laid has s.board c sits.stands (ap weavers_in es ∙ no_visit split) in
      let lost = option_map_none _ (option_and_then (λ r. mem_in t r.callee) (into_at t j split h.mem)) (sym (ap (called g t h j f n split) k.0) ∙ none) in
      there s On next (mems_of h waits) safe sits.mems turn (subst (λ y. Moves problem s.board y next) k.0 mv)
      (on s.board.stack s.board.kept s.board.caps s.board.word s.board.phase sits.stands
      ∙ ap (option_map (λ callee. callee ∷ mems_of h waits)) lost)
    where
      is_call : (split : Bool) → call_in (Some (call_spot split j f n)) ≡ Some (record { seam = j; function = f; back = n; split = split })
      is_call true = refl
      is_call false = refl

      no_visit : (split : Bool) → weavers_in (Some (call_spot split j f n)) ≡ false
      no_visit true = refl
      no_visit false = refl

      on : (stack : List Frame) (kept : List (Option Caps)) (caps : Caps) (word : Word) (phase : Phase) → StandsOn (Least g) g stack kept caps word phase h.pos h.state (map ret_of waits)
          → memories problem t (board_on stack kept caps word phase) (mems_of h waits) phase On
          ≡ option_map (λ callee. callee ∷ mems_of h waits) (option_and_then (λ r. mem_in t r.callee) (into_at t j split h.mem))
      on [] kept caps word phase stands = absurd stands
      on (frame ∷ frames) kept caps word phase stands =
          let sn = see (Least g) g.spots g.policy (g.exit stands.0) frame caps word phase h.pos h.state stands.1 in
          let k = call_here names g t plan right laid has held holds j f n split frame phase sn.0 (same_Some sn.0 (call_spot split j f n) (sym sn.1 ∙ es)) sn.2 in
          ap₂ (λ (fr : Frame) (ph : Phase). memories problem t (board_on (fr ∷ frames) kept caps word ph) (mems_of h waits) ph On) k.is_frame k.is_phase
          ∙ called_memory names g t plan right laid has held holds split k.at j k.callee k.rest frames kept caps word (mems_of h waits)

  -- An end: the one move is On, and its row is there.
  end_memory : (stack : List Frame) (kept : List (Option Caps)) (caps : Caps) (word : Word) (phase : Phase) (h : Here) (w : Wait) (waits : List Wait) (f : ℕ)
      → StandsOn (Least g) g stack kept caps word phase h.pos h.state (map ret_of (w ∷ waits)) → slice_get g.spots h.pos ≡ Some (Exit f) → Waiting (below stack) kept (w ∷ waits)
      → memories problem t (board_on stack kept caps word phase) (mems_of h (w ∷ waits)) phase On
      ≡ option_map (λ after. after ∷ map (λ (w : Wait). w.mem) waits) (option_and_then (λ exit. option_and_then (λ r. mem_in t r.after) (back_at t w.seam w.split w.mem exit)) (state_of t h.mem))
  end_memory [] kept caps word phase h w waits f stands es waiting = absurd stands
  end_memory (frame ∷ []) kept caps word phase h w waits f stands es waiting = absurd waiting
  end_memory (frame ∷ (frame2 ∷ frames)) [] caps word phase h w waits f stands es waiting = absurd waiting
  end_memory (frame ∷ (frame2 ∷ frames)) (k ∷ kept) caps word phase h w waits f stands es waiting =
      let sn = see (Least g) g.spots g.policy (g.exit stands.0) frame caps word phase h.pos h.state stands.1 in
      let e = end_here names g t plan right laid has held holds f frame phase sn.0 (same_Some sn.0 (Exit f) (sym sn.1 ∙ es)) sn.2 in
      let ms : List ℕ = map (λ (w : Wait). w.mem) waits in
      ap₂ (λ (fr : Frame) (ph : Phase). memories problem t (board_on (fr ∷ (frame2 ∷ frames)) (k ∷ kept) caps word ph) (mems_of h (w ∷ waits)) ph On) e.is_frame e.is_phase
      ∙ ap₂ (λ (fr : Frame) (split : Bool). option_map (λ after. after ∷ ms) (returned_with t split fr w.mem (state_of t h.mem))) waiting.0.3 waiting.1
      ∙ returned_is waiting.0.0 waiting.0.1 waiting.0.2 ms (state_of t h.mem)
    where
      returned_is : (at : ℕ) (callee : Callee) (rest : Frame) (ms : List ℕ) (o : Option ℕ)
          → option_map (λ after. after ∷ ms) (returned_with t w.split (Todo (Call at w.seam callee) ∷ rest) w.mem o)
          ≡ option_map (λ after. after ∷ ms) (option_and_then (λ exit. option_and_then (λ r. mem_in t r.after) (back_at t w.seam w.split w.mem exit)) o)
      returned_is at callee rest ms None = refl
      returned_is at callee rest ms (Some exit) = refl

  returning_none : (h : Here) (w : Wait) → returning g t h (Some w) ≡ None
      → option_and_then (λ exit. option_and_then (λ r. mem_in t r.after) (back_at t w.seam w.split w.mem exit)) (state_of t h.mem) ≡ None
  returning_none h w e = by (state_of t h.mem) e
    where
      by : (o : Option ℕ)
          → option_and_then (λ exit. option_map (λ m. Back (landing (w.back, returned g.states (kept_at w.split w.state) h.state) m))
          (option_and_then (λ r. mem_in t r.after) (back_at t w.seam w.split w.mem exit))) o ≡ None
          → option_and_then (λ exit. option_and_then (λ r. mem_in t r.after) (back_at t w.seam w.split w.mem exit)) o ≡ None
      by None e = refl
      by (Some exit) e = option_map_none _ (option_and_then (λ r. mem_in t r.after) (back_at t w.seam w.split w.mem exit)) e

  end_moveless : (s : State) (h : Here) (waits : List Wait) (by : Move) (f : ℕ) → Sits plan g s h waits → Safe problem t s
      → slice_get g.spots h.pos ≡ Some (Exit f) → ended g t h waits by ≡ None → IsNoMove problem s.board by
  end_moveless s h [] by f sits safe es none = λ next mv.
      let c = config_of h [] in
      let k = link.ends s.board c by next (stands_at s.board c sits.stands) (unrefused (Least g) g plan right laid has s.board c sits.stands) (f, es, refl) mv in
      none_some (sym (ap (ended g t h []) k.0) ∙ none)
    where
      none_some : Some AllOver ≡ None → ⊥
      none_some e = none-some AllOver (sym e)
  end_moveless s h (w ∷ waits) by f sits safe es none = λ next mv.
      let c = config_of h (w ∷ waits) in
      let k = link.returns s.board h.pos h.state f (ret_of w) (map ret_of waits) by next (stands_at s.board c sits.stands)
      (unrefused (Least g) g plan right laid has s.board c sits.stands) es mv in
      let turn = environments_turn (Least g) g plan right laid has s.board c sits.stands (ap weavers_in es) in
      there s On next (mems_of h (w ∷ waits)) safe sits.mems turn (subst (λ y. Moves problem s.board y next) k.0 mv)
      (end_memory s.board.stack s.board.kept s.board.caps s.board.word s.board.phase h w waits f sits.stands es sits.waiting
      ∙ ap (option_map (λ after. after ∷ map (λ (w : Wait). w.mem) waits)) (returning_none h w (sym (ap (ended g t h (w ∷ waits)) k.0) ∙ none)))

  -- A refusal that a stop can answer: the weaver has a move after it, so the row is there, and its memory.
  no_going : (row : Option TryRow) (j : ℕ) (pair : ℕ × ℕ) → refusing t j pair row ≡ None → (stops row ≡ false) × (refused_with t row ≡ None)
  no_going None j pair e = (refl, refl)
  no_going (Some r) j pair e = by r.refused e
    where
      by : (o : Option MemId) → going_on t j pair o ≡ None → (not (is_some o) ≡ false) × (option_and_then (mem_in t) o ≡ None)
      by None e = absurd (none-some (Stopped j) (sym e))
      by (Some m) e = (refl, option_map_none _ (mem_in t m) e)

  -- neither of the weaver's moves is there, in Refused
  stuck : (b next : Board) (i : ℕ) (a : Primitive) (later : List Primitive) (ms ns : List ℕ) (by : Move) → moved problem b (Refused i a later) by ≡ Some next
      → memories problem t b ms (Refused i a later) by ≡ Some ns → (m : ℕ) (rest : List ℕ) → ms ≡ m ∷ rest → (row : Option TryRow)
      → try_of t b i m ≡ row → stops row ≡ false → refused_with t row ≡ None → ⊥
  stuck b next i a later ms ns Skip mv me m rest em row er es en =
      none-some ns (sym (ap (option_map (λ n. n ∷ rest)) (ap (refused_with t) er ∙ en)) ∙ sym (ap (λ l. memories problem t b l (Refused i a later) Skip) em) ∙ me)
  stuck b next i a later ms ns Stop mv me m rest em row er es en =
      none-some ns (sym (ap (λ y. option_map (λ n. n ∷ rest) (stays_where y m)) (ap stops er ∙ es)) ∙ sym (ap (λ l. memories problem t b l (Refused i a later) Stop) em) ∙ me)
  stuck b next i a later ms ns _ mv me m rest em row er es en = none-some next mv

  asked_seam : (stack : List Frame) (kept : List (Option Caps)) (caps : Caps) (word : Word) (phase : Phase) (p q : ℕ) (rets : List Ret) (j i : ℕ) (a : Primitive)
      → StandsOn (Least g) g stack kept caps word phase p q rets → slice_get g.spots p ≡ Some (AskedSpot j i a) → front_seam stack ≡ Some j
  asked_seam [] kept caps word phase p q rets j i a stands es = absurd stands
  asked_seam (frame ∷ frames) kept caps word phase p q rets j i a stands es =
      let sn = see (Least g) g.spots g.policy (g.exit stands.0) frame caps word phase p q stands.1 in
      (asked_here j i a frame phase sn.0 (same_Some sn.0 (AskedSpot j i a) (sym sn.1 ∙ es)) sn.2).is_seam

  refusing_moveless : (s : State) (h : Here) (waits : List Wait) (j i : ℕ) (a : Primitive) (pair : ℕ × ℕ) → Sits plan g s h waits
      → ((next : State) → WovenStep problem t s Refuse next → Safe problem t next) → slice_get g.spots h.pos ≡ Some (AskedSpot j i a)
      → resumed g h.pos h.state ≡ Some pair → refusing t j pair (try_at t j i h.mem) ≡ None → ⊥
  refusing_moveless s h waits j i a pair sits safe es er none =
      let r = refusal_step names g t plan right laid has held holds s h waits j i a pair sits es er in
      let f = r.first in
      let c = (safe f r.refuses).chooses (ap turn_of r.is_refused) in
      let gone = no_going (try_at t j i h.mem) j pair none in
      let seam = asked_seam s.board.stack s.board.kept s.board.caps s.board.word s.board.phase h.pos h.state (map ret_of waits) j i a sits.stands es in
      stuck f.board c.1.board i a r.later f.mems c.1.mems c.0
      (sym (ap (λ ph. moved problem f.board ph c.0) r.is_refused) ∙ c.2.0.1)
      (sym (ap (λ ph. memories problem t f.board f.mems ph c.0) r.is_refused) ∙ c.2.1)
      h.mem (map (λ (w : Wait). w.mem) waits) (r.same_mems ∙ sits.mems) (try_at t j i h.mem)
      (ap (λ o. try_in t o i h.mem) (ap front_seam r.same_stack ∙ seam)) gone.0 gone.1

  asked_moveless : (s : State) (h : Here) (waits : List Wait) (by : Move) (j i : ℕ) (a : Primitive) → Sits plan g s h waits → Safe problem t s
      → ((next : State) → WovenStep problem t s Refuse next → Safe problem t next) → slice_get g.spots h.pos ≡ Some (AskedSpot j i a) → (o : Option (ℕ × ℕ)) → resumed g h.pos h.state ≡ o
      → asked g t h (AskedSpot j i a) j i by o ≡ None → IsNoMove problem s.board by
  asked_moveless s h waits Refuse j i a sits safe after es (Some pair) er none = λ next mv. refusing_moveless s h waits j i a pair sits after es er none
  asked_moveless s h waits Refuse j i a sits safe after es None er none =
      inner_moveless s h waits Refuse (AskedSpot j i a) sits safe es refl refl
      (asked_never s.board.stack s.board.kept s.board.caps s.board.word s.board.phase h.pos h.state (map ret_of waits) sits.stands er) (option_map_none To _ none)
  asked_moveless s h waits by j i a sits safe after es o er none =
      inner_moveless s h waits by (AskedSpot j i a) sits safe es refl refl (only_refusals g.policy s.board.caps s.board.phase by (λ e. cc)) (option_map_none To _ none)

  -- Where no move is found there is none.
  pub moveless : (s : State) (h : Here) (waits : List Wait) (by : Move) (spot : Spot) → Sits plan g s h waits → Safe problem t s
      → ((next : State) → WovenStep problem t s Refuse next → Safe problem t next) → slice_get g.spots h.pos ≡ Some spot → weavers_in (Some spot) ≡ false
      → next_of g t h waits spot by ≡ None → IsNoMove problem s.board by
  moveless s h waits by (CallSpot j f n) sits safe after es env none = call_moveless s h waits by false j f n sits safe es none
  moveless s h waits by (SplitCall j f n) sits safe after es env none = call_moveless s h waits by true j f n sits safe es none
  moveless s h waits by (Exit f) sits safe after es env none = end_moveless s h waits by f sits safe es none
  moveless s h waits by (AskedSpot j i a) sits safe after es env none = asked_moveless s h waits by j i a sits safe after es (resumed g h.pos h.state) refl none
  moveless s h waits by (VisitSpot j i a) sits safe after es env none = cc
  moveless s h waits by (Step n) sits safe after es env none =
      inner_moveless s h waits by (Step n) sits safe es refl refl
      (unasked_on s.board.stack s.board.kept s.board.caps s.board.word s.board.phase h.pos h.state (map ret_of waits) by (Step n) sits.stands es (λ j i a e. cc)) (option_map_none To _ none)
  moveless s h waits by (Branch m n) sits safe after es env none =
      inner_moveless s h waits by (Branch m n) sits safe es refl refl
      (unasked_on s.board.stack s.board.kept s.board.caps s.board.word s.board.phase h.pos h.state (map ret_of waits) by (Branch m n) sits.stands es (λ j i a e. cc)) (option_map_none To _ none)
  moveless s h waits by (LabelSpot j l n) sits safe after es env none =
      inner_moveless s h waits by (LabelSpot j l n) sits safe es refl refl
      (unasked_on s.board.stack s.board.kept s.board.caps s.board.word s.board.phase h.pos h.state (map ret_of waits) by (LabelSpot j l n) sits.stands es (λ j i a e. cc)) (option_map_none To _ none)
  moveless s h waits by (OpenSpot j d n) sits safe after es env none =
      inner_moveless s h waits by (OpenSpot j d n) sits safe es refl refl
      (unasked_on s.board.stack s.board.kept s.board.caps s.board.word s.board.phase h.pos h.state (map ret_of waits) by (OpenSpot j d n) sits.stands es (λ j i a e. cc)) (option_map_none To _ none)
  moveless s h waits by (CloseSpot j d n) sits safe after es env none =
      inner_moveless s h waits by (CloseSpot j d n) sits safe es refl refl
      (unasked_on s.board.stack s.board.kept s.board.caps s.board.word s.board.phase h.pos h.state (map ret_of waits) by (CloseSpot j d n) sits.stands es (λ j i a e. cc)) (option_map_none To _ none)
