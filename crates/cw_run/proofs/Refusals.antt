-- What follows a refusal that a stop can answer: going on, or the stop.
use Rattle.std.proofs.Common.{◌≡◌, ℕ, suc, ◌+◌, List, [], ◌∷◌, map, Bool, true, false, cond, not, ◌&&◌, ◌||◌, Option, Some, None, is_some, option_map, refl, sym, ap, ap₂, ◌∙◌, subst}
use Rattle.std.specs.Prelude.{slice_get}
use Rattle.std.proofs.lemmas.Option.{same_Some, cond_some}
use Rattle.cw_rights.specs.declared.capabilities.Caps.{Caps}
use Rattle.cw_rights.specs.declared.capabilities.Primitive.{Primitive}
use Rattle.cw_rights.specs.declared.capabilities.Primitive.TheVariants.{Split}
use Rattle.cw_rights.specs.Words.{Word}
use Rattle.cw_rights.specs.Policies.{is_refusable}
use Rattle.cw_certs.specs.declared.moves.Move.TheVariants.{Skip, Refuse, Stop}
use Rattle.cw_certs.specs.declared.rows.TryRow.{TryRow}
use Rattle.cw_certs.specs.Tables.{Table, try_at}
use Rattle.cw_syntax.specs.Plans.{Plan}
use Rattle.cw_syntax.specs.Frames.{Frame}
use Rattle.cw_model.specs.Boards.{seam_in, Problem, Phase, Asked, Refused, Over, Board, onward, may_grant, may_refuse, can_stop, passed_by}
use Rattle.cw_model.specs.Runs.{top_by, try_in, refused_with, stops, stays_where, State, WovenStep}
use Rattle.cw_model.proofs.Moving.{board_on}
use Rattle.cw_game.specs.declared.spots.Spot.{Spot}
use Rattle.cw_game.specs.declared.spots.Spot.TheVariants.{Asked as AskedSpot}
use Rattle.cw_game.specs.Games.{AreStates, Game, Ret, at_pair, bad_in, can_stop_in, resumed, resumed_in}
use Rattle.cw_game.specs.Reached.{Reached}
use Rattle.cw_game.specs.Places.{IsLaidOut, HasRoutines}
use Rattle.cw_game.specs.Standing.{StandsOn}
use Rattle.cw_game.specs.Together.{Together, by_refusal, by_going_on}
use Rattle.cw_game.proofs.Stands.{refused_at, stops_is}
use Rattle.cw_game.proofs.Link.{violates_bad}
use Rattle.cw_lemmas.proofs.Truths.{not_both}
use Rattle.cw_trace.specs.Traces.{Names, move_lines, reached_lines, answered_lines, stopped_lines}
use Rattle.cw_trace.specs.Lines.{try_line, stop_line}
use Rattle.cw_run.specs.Walks.{Here, Wait, ret_of, config_of, mems_of, landing}
use Rattle.cw_run.proofs.Sees.{Sees, sees_visit, sees_asked, sees_step, sees_branch, sees_label, sees_open, sees_close, sees_call, sees_split, sees_end, see, below}
use Rattle.cw_run.proofs.Sits.{Waiting, Least, Sits, Stepped, arrived, state_of_board}
use Rattle.cw_run.proofs.Calls.{Finishes}

-- what is asked at the front
pub record IsAskedHere (j i : ℕ) (a : Primitive) (frame : Frame) (phase : Phase) : Type 0 where
  pub later : List Primitive
  pub is_phase : phase ≡ Asked i a later
  pub is_seam : seam_in frame ≡ Some j

abbrev asked_key : Spot → ℕ × (ℕ × Primitive)
asked_key (AskedSpot j i a) = (j, (i, a))
asked_key s = (0, (0, Split))

pub asked_here : (j i : ℕ) (a : Primitive) (frame : Frame) (phase : Phase) (spot : Spot) → spot ≡ AskedSpot j i a → Sees frame phase spot → IsAskedHere j i a frame phase
asked_here j i a frame _ _ e (sees_asked {frame = fr} {j = j2} {i = i2} {a = a2} {later = later} s) =
    let k = ap asked_key e in
    record {
      later = later;
      is_phase = ap₂ (λ (n : ℕ) (b : Primitive). Asked n b later) (ap (λ (x : ℕ × (ℕ × Primitive)). x.1.0) k) (ap (λ (x : ℕ × (ℕ × Primitive)). x.1.1) k);
      is_seam = s ∙ ap (λ (x : ℕ × (ℕ × Primitive)). Some x.0) k;
    }
asked_here j i a frame _ _ e (sees_visit s) = cc
asked_here j i a _ _ _ e (sees_step s) = cc
asked_here j i a _ _ _ e (sees_branch s) = cc
asked_here j i a _ _ _ e sees_label = cc
asked_here j i a _ _ _ e sees_open = cc
asked_here j i a _ _ _ e sees_close = cc
asked_here j i a _ _ _ e sees_call = cc
asked_here j i a _ _ _ e sees_split = cc
asked_here j i a _ _ _ e sees_end = cc

refusable : (stop able grants : Bool) → (stop && (able && grants)) ≡ true → (not grants || able) ≡ true
refusable true true true e = refl
refusable true true false e = cc
refusable true false grants e = cc
refusable false able grants e = cc

has_none : (row : Option TryRow) (r : TryRow) → row ≡ Some r → r.refused ≡ None → stops row ≡ true
has_none row r e n = ap stops e ∙ ap (λ o. not (is_some o)) n

module _ (names : Names) (g : Game) (t : Table) (plan : Plan) (right : AreStates g.policy g.spots g.states (Reached g.policy g.spots g.states)) (laid : IsLaidOut plan g) (has : HasRoutines plan g)
    (held : ℕ → Caps) (holds : (q : ℕ) (w : Word) (c : Caps) → Reached g.policy g.spots g.states q w c → held q ≡ c) where
  abbrev problem : Problem
  problem = record { plan = plan; policy = g.policy }

  -- The refusal, after which the weaver moves.
  pub record Refuses (s : State) (j i : ℕ) (a : Primitive) : Type 0 where
    pub first : State
    pub refuses : WovenStep problem t s Refuse first
    pub acts : move_lines names problem s.board s.board.phase Refuse ≡ try_line j i a false
    pub quiet : reached_lines names g.policy first.board first.board.phase ≡ []
    pub later : List Primitive
    pub is_refused : first.board.phase ≡ Refused i a later
    pub same_mems : first.mems ≡ s.mems
    pub same_stack : first.board.stack ≡ s.board.stack

  pub record Resumes (s : State) (j i : ℕ) (a : Primitive) (to : Here) (waits : List Wait) : Type 0 where
    pub refusal : Refuses s j i a
    pub then : Stepped names g t plan right laid has held holds refusal.first Skip [] to waits

  pub record Stops (s : State) (j i : ℕ) (a : Primitive) : Type 0 where
    pub refusal : Refuses s j i a
    pub then : Finishes names g t plan right laid has held holds refusal.first Stop (stop_line j)

  abbrev refused_board : Frame → List Frame → List (Option Caps) → Caps → Word → ℕ → Primitive → List Primitive → Board
  refused_board frame frames kept caps word i a later = board_on (frame ∷ frames) kept caps word (Refused i a later)

  abbrev refusal_on : (frame : Frame) (frames : List Frame) (kept : List (Option Caps)) (caps : Caps) (word : Word) (i j : ℕ) (a : Primitive) (later : List Primitive) (p q : ℕ) (rets : List Ret)
      (ms : List ℕ) → StandsOn (Least g) g (frame ∷ frames) kept caps word (Asked i a later) p q rets → slice_get g.spots p ≡ Some (AskedSpot j i a)
      → seam_in frame ≡ Some j → can_stop g.policy caps a ≡ true → Refuses (state_of_board (board_on (frame ∷ frames) kept caps word (Asked i a later)) ms) j i a
  refusal_on frame frames kept caps word i j a later p q rets ms stands es seam can =
      let b = board_on (frame ∷ frames) kept caps word (Asked i a later) in
      let may : may_refuse g.policy caps a ≡ true = refusable g.policy.stop (is_refusable g.policy a) (may_grant caps a) can in
      let good : bad_in g q (slice_get g.spots p) ≡ false = ap (bad_in g q) es in
      record {
        first = state_of_board (refused_board frame frames kept caps word i a later) ms;
        refuses = (
          (
            λ v. not_both (bad_in g q (slice_get g.spots p)) (violates_bad (Least g) g plan right laid has b (at_pair p q rets) stands v) good,
            ap₂ (λ y z. cond y (Some (record b { phase = cond z (Refused i a later) (onward (suc i) later) })) None) may can,
          ),
          ap (λ y. cond y (Some ms) (top_by (λ m. refused_with t (try_in t (seam_in frame) i m)) ms)) can,
        );
        acts = ap (λ s. answered_lines s i a Refuse) seam;
        quiet = refl;
        later = later;
        is_refused = refl;
        same_mems = refl;
        same_stack = refl;
      }

  -- the parts of a refusal that a stop can answer
  can_of : (frame : Frame) (frames : List Frame) (kept : List (Option Caps)) (caps : Caps) (word : Word) (i j : ℕ) (a : Primitive) (later : List Primitive) (p q : ℕ) (rets : List Ret)
      (pair : ℕ × ℕ) → StandsOn (Least g) g (frame ∷ frames) kept caps word (Asked i a later) p q rets → slice_get g.spots p ≡ Some (AskedSpot j i a) → resumed g p q ≡ Some pair
      → (can_stop g.policy caps a ≡ true) × ((p + 1, q) ≡ pair)
  can_of frame frames kept caps word i j a later p q rets pair stands es e =
      let w = stands.1 in
      let k = cond_some (can_stop_in g q a) (p + 1, q) pair (sym (ap (resumed_in g p q) es) ∙ e) in
      (sym (stops_is (Least g) g right (g.exit stands.0) frame caps word i a later w.0 q w.1 w.3) ∙ k.0, k.1)

  resume_on : (frame : Frame) (frames : List Frame) (kept : List (Option Caps)) (caps : Caps) (word : Word) (i j : ℕ) (a : Primitive) (later : List Primitive) (h : Here) (waits : List Wait)
      (m : ℕ) → Together problem g (board_on (frame ∷ frames) kept caps word (Asked i a later)) (config_of h waits) → resumed g h.pos h.state ≡ Some (h.pos + 1, h.state)
      → StandsOn (Least g) g (frame ∷ frames) kept caps word (Asked i a later) h.pos h.state (map ret_of waits) → Waiting frames kept waits
      → slice_get g.spots h.pos ≡ Some (AskedSpot j i a) → seam_in frame ≡ Some j → can_stop g.policy caps a ≡ true → refused_with t (try_at t j i h.mem) ≡ Some m
      → Resumes (state_of_board (board_on (frame ∷ frames) kept caps word (Asked i a later)) (mems_of h waits)) j i a (landing (h.pos + 1, h.state) m) waits
  resume_on frame frames kept caps word i j a later h waits m goes er stands waiting es seam can em =
      let w = stands.1 in
      let asked = board_on (frame ∷ frames) kept caps word (Asked i a later) in
      let refusal = refusal_on frame frames kept caps word i j a later h.pos h.state (map ret_of waits) (mems_of h waits) stands es seam can in
      let ms : List ℕ = map (λ (w : Wait). w.mem) waits in
      let b = refused_board frame frames kept caps word i a later in
      let next = passed_by b i later in
      let there : StandsOn (Least g) g (frame ∷ frames) kept caps word (onward (suc i) later) (h.pos + 1) h.state (map ret_of waits) =
      (stands.0, refused_at (Least g) g.spots g.policy (g.exit stands.0) frame caps word i a later w.0 h.pos h.state w.1 w.2 w.3, stands.2) in
      record {
        refusal = refusal;
        then = record {
          next = state_of_board next (m ∷ ms);
          steps = (
            ((λ v. let e = v.0 in cc), refl),
            ap (λ s. option_map (λ n. n ∷ ms) (refused_with t (try_in t s i h.mem))) seam ∙ ap (option_map (λ n. n ∷ ms)) em,
          );
          sits = record {
            goes = by_going_on b (config_of h waits) (h.pos + 1, h.state) next
                (by_refusal asked (config_of h waits) Refuse b goes can refusal.refuses.0) refl er ((λ v. let e = v.0 in cc), refl);
            stands = there;
            mems = refl;
            waiting = waiting;
          };
          acts = refl;
          reaches = arrived names g t plan right laid has held holds next (landing (h.pos + 1, h.state) m) waits there;
        };
      }

  stop_on : (frame : Frame) (frames : List Frame) (kept : List (Option Caps)) (caps : Caps) (word : Word) (i j : ℕ) (a : Primitive) (later : List Primitive) (h : Here) (waits : List Wait)
      (r : TryRow) → StandsOn (Least g) g (frame ∷ frames) kept caps word (Asked i a later) h.pos h.state (map ret_of waits)
      → slice_get g.spots h.pos ≡ Some (AskedSpot j i a) → seam_in frame ≡ Some j → can_stop g.policy caps a ≡ true → try_at t j i h.mem ≡ Some r → r.refused ≡ None
      → Stops (state_of_board (board_on (frame ∷ frames) kept caps word (Asked i a later)) (mems_of h waits)) j i a
  stop_on frame frames kept caps word i j a later h waits r stands es seam can er en =
      let ms : List ℕ = map (λ (w : Wait). w.mem) waits in
      let b = refused_board frame frames kept caps word i a later in
      record {
        refusal = refusal_on frame frames kept caps word i j a later h.pos h.state (map ret_of waits) (mems_of h waits) stands es seam can;
        then = record {
          next = state_of_board (record b { phase = Over }) (h.mem ∷ ms);
          steps = (
            ((λ v. let e = v.0 in cc), refl),
            ap (λ s. option_map (λ n. n ∷ ms) (stays_where (stops (try_in t s i h.mem)) h.mem)) seam
                ∙ ap (λ y. option_map (λ n. n ∷ ms) (stays_where y h.mem)) (has_none (try_at t j i h.mem) r er en),
          );
          over = refl;
          acts = ap (λ s. stopped_lines s Stop) seam;
        };
      }

  pub resume_step : (s : State) (h : Here) (waits : List Wait) (j i m : ℕ) (a : Primitive) (pair : ℕ × ℕ) → Sits plan g s h waits → slice_get g.spots h.pos ≡ Some (AskedSpot j i a)
      → resumed g h.pos h.state ≡ Some pair → refused_with t (try_at t j i h.mem) ≡ Some m → Resumes s j i a (landing pair m) waits
  resume_step s h waits j i m a pair sits es er em =
      subst (λ ms. Resumes (state_of_board s.board ms) j i a (landing pair m) waits) (sym sits.mems)
      (on s.board.stack s.board.kept s.board.caps s.board.word s.board.phase sits.goes sits.stands sits.waiting)
    where
      on : (stack : List Frame) (kept : List (Option Caps)) (caps : Caps) (word : Word) (phase : Phase) → Together problem g (board_on stack kept caps word phase) (config_of h waits)
          → StandsOn (Least g) g stack kept caps word phase h.pos h.state (map ret_of waits)
          → Waiting (below stack) kept waits → Resumes (state_of_board (board_on stack kept caps word phase) (mems_of h waits)) j i a (landing pair m) waits
      on [] kept caps word phase goes stands waiting = absurd stands
      on (frame ∷ frames) kept caps word phase goes stands waiting =
          let sn = see (Least g) g.spots g.policy (g.exit stands.0) frame caps word phase h.pos h.state stands.1 in
          let k = asked_here j i a frame phase sn.0 (same_Some sn.0 (AskedSpot j i a) (sym sn.1 ∙ es)) sn.2 in
          let there = subst (λ ph. StandsOn (Least g) g (frame ∷ frames) kept caps word ph h.pos h.state (map ret_of waits)) k.is_phase stands in
          let c = can_of frame frames kept caps word i j a k.later h.pos h.state (map ret_of waits) pair there es er in
          subst (λ ph. Resumes (state_of_board (board_on (frame ∷ frames) kept caps word ph) (mems_of h waits)) j i a (landing pair m) waits) (sym k.is_phase)
          (subst (λ z. Resumes (state_of_board (board_on (frame ∷ frames) kept caps word (Asked i a k.later)) (mems_of h waits)) j i a (landing z m) waits) c.1
          (resume_on frame frames kept caps word i j a k.later h waits m (subst (λ ph. Together problem g (board_on (frame ∷ frames) kept caps word ph) (config_of h waits)) k.is_phase goes)
          (er ∙ ap Some (sym c.1)) there waiting es k.is_seam c.0 em))

  pub stop_step : (s : State) (h : Here) (waits : List Wait) (j i : ℕ) (a : Primitive) (pair : ℕ × ℕ) (r : TryRow) → Sits plan g s h waits → slice_get g.spots h.pos ≡ Some (AskedSpot j i a)
      → resumed g h.pos h.state ≡ Some pair → try_at t j i h.mem ≡ Some r → r.refused ≡ None → Stops s j i a
  stop_step s h waits j i a pair r sits es er row en =
      subst (λ ms. Stops (state_of_board s.board ms) j i a) (sym sits.mems)
      (on s.board.stack s.board.kept s.board.caps s.board.word s.board.phase sits.stands)
    where
      on : (stack : List Frame) (kept : List (Option Caps)) (caps : Caps) (word : Word) (phase : Phase) → StandsOn (Least g) g stack kept caps word phase h.pos h.state (map ret_of waits)
          → Stops (state_of_board (board_on stack kept caps word phase) (mems_of h waits)) j i a
      on [] kept caps word phase stands = absurd stands
      on (frame ∷ frames) kept caps word phase stands =
          let sn = see (Least g) g.spots g.policy (g.exit stands.0) frame caps word phase h.pos h.state stands.1 in
          let k = asked_here j i a frame phase sn.0 (same_Some sn.0 (AskedSpot j i a) (sym sn.1 ∙ es)) sn.2 in
          let there = subst (λ ph. StandsOn (Least g) g (frame ∷ frames) kept caps word ph h.pos h.state (map ret_of waits)) k.is_phase stands in
          let c = can_of frame frames kept caps word i j a k.later h.pos h.state (map ret_of waits) pair there es er in
          subst (λ ph. Stops (state_of_board (board_on (frame ∷ frames) kept caps word ph) (mems_of h waits)) j i a) (sym k.is_phase)
          (stop_on frame frames kept caps word i j a k.later h waits r there es k.is_seam c.0 row en)

  -- a refusal that a stop can answer is a move, and the weaver's turn comes after it
  pub refusal_step : (s : State) (h : Here) (waits : List Wait) (j i : ℕ) (a : Primitive) (pair : ℕ × ℕ) → Sits plan g s h waits → slice_get g.spots h.pos ≡ Some (AskedSpot j i a)
      → resumed g h.pos h.state ≡ Some pair → Refuses s j i a
  refusal_step s h waits j i a pair sits es er = on s.board.stack s.board.kept s.board.caps s.board.word s.board.phase sits.stands
    where
      on : (stack : List Frame) (kept : List (Option Caps)) (caps : Caps) (word : Word) (phase : Phase) → StandsOn (Least g) g stack kept caps word phase h.pos h.state (map ret_of waits)
          → Refuses (state_of_board (board_on stack kept caps word phase) s.mems) j i a
      on [] kept caps word phase stands = absurd stands
      on (frame ∷ frames) kept caps word phase stands =
          let sn = see (Least g) g.spots g.policy (g.exit stands.0) frame caps word phase h.pos h.state stands.1 in
          let k = asked_here j i a frame phase sn.0 (same_Some sn.0 (AskedSpot j i a) (sym sn.1 ∙ es)) sn.2 in
          let there = subst (λ ph. StandsOn (Least g) g (frame ∷ frames) kept caps word ph h.pos h.state (map ret_of waits)) k.is_phase stands in
          let c = can_of frame frames kept caps word i j a k.later h.pos h.state (map ret_of waits) pair there es er in
          subst (λ ph. Refuses (state_of_board (board_on (frame ∷ frames) kept caps word ph) s.mems) j i a) (sym k.is_phase)
          (refusal_on frame frames kept caps word i j a k.later h.pos h.state (map ret_of waits) s.mems there es k.is_seam c.0)
