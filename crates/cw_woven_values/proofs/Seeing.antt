-- What a state is where something stands at its landing in the game.
use Rattle.std.proofs.Common.{◌≡◌, ℕ, List, [], ◌∷◌, ◌++◌, map, false, Some, None, refl, sym, ap, ◌∙◌, subst}
use Rattle.std.specs.Prelude.{slice_get}
use Rattle.std.proofs.lemmas.Option.{same_Some}
use Rattle.cw_rights.specs.declared.capabilities.Primitive.{Primitive}
use Rattle.cw_certs.specs.declared.moves.Move.{Move}
use Rattle.cw_certs.specs.declared.moves.Move.TheVariants.{Refuse}
use Rattle.cw_certs.specs.Tables.{Table}
use Rattle.cw_syntax.specs.Frames.{Frame}
use Rattle.cw_model.specs.Boards.{Phase, Visit, Asked, Over, is_refused}
use Rattle.cw_model.specs.Runs.{State, start_state, WovenStep}
use Rattle.cw_game.specs.declared.spots.Spot.{Spot}
use Rattle.cw_game.specs.declared.spots.Spot.TheVariants.{Visit as VisitSpot, Asked as AskedSpot}
use Rattle.cw_game.specs.Games.{weavers_in}
use Rattle.cw_game.specs.Standing.{StandsOn}
use Rattle.cw_game.proofs.Link.{unrefused}
use Rattle.cw_product.specs.Product.{Held}
use Rattle.cw_trace.specs.Steps.{Step, IsNoMove}
use Rattle.cw_trace.proofs.Grown.{follows_grown, state_grown}
use Rattle.cw_run.specs.Walks.{Here, Wait, ret_of, config_of, next_of}
use Rattle.cw_run.proofs.Sees.{Sees, sees_visit, sees_asked, sees_step, sees_branch, sees_label, sees_open, sees_close, sees_call, sees_split, sees_end, see}
use Rattle.cw_run.proofs.Sits.{Least, Sits}
use Rattle.cw_run.proofs.Moveless.{Safe, moveless}
use Rattle.cw_run.proofs.Runs.{safe_of}
use Rattle.cw_run.proofs.Looping.{safe}
use Rattle.cw_value.specs.Machines.{Source}
use Rattle.cw_value.specs.Runs.{IsFree}
use Rattle.cw_woven_values.specs.Standing.{IsWoven, IsAsked, Comes}
use Rattle.cw_woven_values.proofs.Found.{g, p, names, held, is_game, caps_held}

-- the visit that a spot is, in a phase
abbrev phase_in : Spot → List Primitive → Phase
phase_in (VisitSpot j i a) later = Visit i a later
phase_in spot later = Over

-- what is seen, by a spot and a phase
pub visit_seen : (frame : Frame) (phase : Phase) (spot : Spot) (j i : ℕ) (a : Primitive) → spot ≡ VisitSpot j i a → Sees frame phase spot → (later : List Primitive) × (phase ≡ Visit i a later)
visit_seen frame _ _ j i a e (sees_visit {frame = fr} {j = j2} {i = i2} {a = a2} {later = later} s) = (later, ap (λ z. phase_in z later) e)
visit_seen frame _ _ j i a e (sees_asked s) = cc
visit_seen _ _ _ j i a e (sees_step s) = cc
visit_seen _ _ _ j i a e (sees_branch s) = cc
visit_seen _ _ _ j i a e sees_label = cc
visit_seen _ _ _ j i a e sees_open = cc
visit_seen _ _ _ j i a e sees_close = cc
visit_seen _ _ _ j i a e sees_call = cc
visit_seen _ _ _ j i a e sees_split = cc
visit_seen _ _ _ j i a e sees_end = cc

pub free_seen : (frame : Frame) (phase : Phase) (spot : Spot) → Sees frame phase spot → IsFree phase → weavers_in (Some spot) ≡ false
free_seen frame _ _ (sees_visit s) f = absurd f
free_seen frame _ _ (sees_asked s) f = absurd f
free_seen _ _ _ (sees_step s) f = refl
free_seen _ _ _ (sees_branch s) f = refl
free_seen _ _ _ sees_label f = refl
free_seen _ _ _ sees_open f = refl
free_seen _ _ _ sees_close f = refl
free_seen _ _ _ sees_call f = refl
free_seen _ _ _ sees_split f = refl
free_seen _ _ _ sees_end f = refl

-- what is asked
pub record AskedSeen (phase : Phase) (spot : Spot) : Type 0 where
  pub seam : ℕ
  pub stage : ℕ
  pub what : Primitive
  pub later : List Primitive
  pub is_phase : phase ≡ Asked stage what later
  pub is_spot : spot ≡ AskedSpot seam stage what

pub asked_seen : (frame : Frame) (phase : Phase) (spot : Spot) → Sees frame phase spot → IsAsked phase → AskedSeen phase spot
asked_seen frame _ _ (sees_visit s) k = absurd k
asked_seen frame _ _ (sees_asked {frame = fr} {j = j} {i = i} {a = a} {later = later} s) k = record { seam = j; stage = i; what = a; later = later; is_phase = refl; is_spot = refl }
asked_seen _ _ _ (sees_step s) k = absurd k
asked_seen _ _ _ (sees_branch s) k = absurd k
asked_seen _ _ _ sees_label k = absurd k
asked_seen _ _ _ sees_open k = absurd k
asked_seen _ _ _ sees_close k = absurd k
asked_seen _ _ _ sees_call k = absurd k
asked_seen _ _ _ sees_split k = absurd k
asked_seen _ _ _ sees_end k = absurd k

module _ (h : Held) (s : Source) (t : Table) (w : IsWoven h s t) where
  -- what stands at the landing of a state
  pub record Seen (st : State) (here : Here) : Type 0 where
    pub frame : Frame
    pub frames : List Frame
    pub stack : st.board.stack ≡ frame ∷ frames
    pub spot : Spot
    pub at : slice_get (g h s t w).spots here.pos ≡ Some spot
    pub sees : Sees frame st.board.phase spot

  pub seen : (st : State) (here : Here) (waits : List Wait) → Sits (p h s t w).plan (g h s t w) st here waits → Seen st here
  seen st here waits sits = on st.board.stack refl sits.stands
    where
      on : (stack : List Frame) → st.board.stack ≡ stack
          → StandsOn (Least (g h s t w)) (g h s t w) stack st.board.kept st.board.caps st.board.word st.board.phase here.pos here.state (map ret_of waits) → Seen st here
      on [] e stands = absurd stands
      on (frame ∷ frames) e stands =
          let sn = see (Least (g h s t w)) (g h s t w).spots (g h s t w).policy ((g h s t w).exit stands.0) frame st.board.caps st.board.word st.board.phase here.pos here.state stands.1 in
          record { frame = frame; frames = frames; stack = e; spot = sn.0; at = sn.1; sees = sn.2 }

  pub sees_at : (st : State) (here : Here) (k : Seen st here) (spot : Spot) → slice_get (g h s t w).spots here.pos ≡ Some spot → Sees k.frame st.board.phase spot
  sees_at st here k spot e = subst (λ z. Sees k.frame st.board.phase z) (same_Some k.spot spot (sym k.at ∙ e)) k.sees

  -- the board of a landing isn't in Refused
  pub never_refused : (st : State) (here : Here) (waits : List Wait) → Sits (p h s t w).plan (g h s t w) st here waits → is_refused st.board.phase ≡ false
  never_refused st here waits sits =
      unrefused (Least (g h s t w)) (g h s t w) (p h s t w).plan (is_game h s t w).states (is_game h s t w).laid (is_game h s t w).routines st.board (config_of here waits) sits.stands

  -- a run goes on by a step
  pub comes_on : (st next : State) (by : Move) → Comes h s t st → WovenStep (p h s t w) t st by next → Comes h s t next
  comes_on st next by c step =
      let one : Step = record { by = by; next = next } in
      let start = start_state (p h s t w) t in
      (c.0 ++ one ∷ [], follows_grown (p h s t w) t start c.0 one c.1 (subst (λ z. WovenStep (p h s t w) t z by next) (sym c.2) step), state_grown start c.0 one)

  -- so nothing is wrong with its state
  pub safe_at : (st : State) → Comes h s t st → Safe (p h s t w) t st
  safe_at st c =
      subst (λ z. Safe (p h s t w) t z) c.2
      (safe_of (p h s t w) t (safe h s.bytes s.file t (names h s t w) w.valid w.lists w.drawn w.runs w.assigns w.good) c.0 c.1)

  -- where the game and the table have no move, the board has none
  pub stuck : (st : State) (here : Here) (waits : List Wait) (by : Move) (spot : Spot) → Sits (p h s t w).plan (g h s t w) st here waits → Comes h s t st
      → slice_get (g h s t w).spots here.pos ≡ Some spot → weavers_in (Some spot) ≡ false → next_of (g h s t w) t here waits spot by ≡ None → IsNoMove (p h s t w) st.board by
  stuck st here waits by spot sits c es env none =
      moveless (names h s t w) (g h s t w) t (p h s t w).plan (is_game h s t w).states (is_game h s t w).laid (is_game h s t w).routines (held h s t w) (caps_held h s t w)
      st here waits by spot sits (safe_at st c) (λ next step. safe_at next (comes_on st next Refuse c step)) es env none
