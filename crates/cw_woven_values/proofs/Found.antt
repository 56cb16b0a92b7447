-- A move of the environment that the game and the table have is one of the woven program, and the state behind it stands where it leads.
use Rattle.std.proofs.Common.{◌≡◌, ℕ, List, [], ◌∷◌, map, Bool, true, false, Option, Some, None, option_map, option_and_then, refl, sym, ap, ◌∙◌, subst}
use Rattle.std.specs.Prelude.{slice_get}
use Rattle.std.proofs.lemmas.Option.{none-some, same_Some}
use Rattle.cw_core.specs.declared.ids.MemId.{MemId}
use Rattle.cw_rights.specs.declared.capabilities.Caps.{Caps}
use Rattle.cw_rights.specs.declared.capabilities.Primitive.{Primitive}
use Rattle.cw_rights.specs.Words.{Word}
use Rattle.cw_certs.specs.declared.moves.Move.{Move}
use Rattle.cw_certs.specs.declared.moves.Move.TheVariants.{Skip, Refuse, On, Stop as StopMove}
use Rattle.cw_certs.specs.declared.rows.TryRow.{TryRow}
use Rattle.cw_certs.specs.Tables.{Table, try_at, into_at, back_at, state_of}
use Rattle.cw_lemmas.proofs.Options.{option_map_some as mapped}
use Rattle.cw_syntax.specs.Frames.{Frame}
use Rattle.cw_model.specs.Boards.{Problem, Refused as RefusedPhase, Over as OverPhase}
use Rattle.cw_model.specs.Runs.{mem_in, refused_with, front_seam, State, WovenStep}
use Rattle.cw_game.specs.declared.spots.Spot.{Spot}
use Rattle.cw_game.specs.declared.spots.Spot.TheVariants.{Step as StepSpot, Branch, Exit, Visit as VisitSpot, Asked as AskedSpot, Label as LabelSpot, Open as OpenSpot}
use Rattle.cw_game.specs.declared.spots.Spot.TheVariants.{Close as CloseSpot, Call as CallSpot, SplitCall}
use Rattle.cw_game.specs.Games.{Game, weavers_in, resumed, returned}
use Rattle.cw_game.specs.Pairs.{call_spot, kept_at}
use Rattle.cw_game.specs.Reached.{Reached}
use Rattle.cw_game.specs.Standing.{IsGameOf, StandsOn}
use Rattle.cw_states.specs.States.{caps_at, lists_of}
use Rattle.cw_product.specs.Product.{Held, game_of}
use Rattle.cw_trace.specs.Traces.{Names}
use Rattle.cw_trace.specs.Labels.{names_of as trace_names_of}
use Rattle.cw_run.specs.Walks.{Here, Wait, ret_of, landing, within, called, ended, going_on, refusing, asked, next_of, Next, To, Into, Back, Over, Resumed, Stopped, without_first}
use Rattle.cw_run.proofs.Sees.{is_inner, see}
use Rattle.cw_run.proofs.Sits.{chained, Least, Sits, Stepped, inner_step}
use Rattle.cw_run.proofs.Calls.{call_step, return_step, end_step}
use Rattle.cw_run.proofs.Refusals.{Refuses, asked_here, resume_step, stop_step}
use Rattle.cw_run.proofs.Looping.{of, holds}
use Rattle.cw_value.specs.Machines.{Source}
use Rattle.cw_woven_values.specs.Standing.{IsWoven, problem}

module _ (h : Held) (s : Source) (t : Table) (w : IsWoven h s t) where
  abbrev pub g : Game
  g = game_of h

  abbrev pub p : Problem
  p = problem h s t

  abbrev pub names : Names
  names = trace_names_of s.bytes s.file p.plan

  abbrev pub held : ℕ → Caps
  held = caps_at (lists_of h.states)

  pub is_game : IsGameOf p g
  is_game = of h s.bytes s.file t names w.valid w.lists w.drawn w.runs w.assigns w.good

  pub caps_held : (q : ℕ) (word : Word) (c : Caps) → Reached g.policy g.spots g.states q word c → held q ≡ c
  caps_held = holds h s.bytes s.file t names w.valid w.lists w.drawn w.runs w.assigns w.good

  -- a step of the woven program, and where the state behind it stands
  pub record Moved (st : State) (by : Move) (to : Here) (waits : List Wait) : Type 0 where
    pub next : State
    pub step : WovenStep p t st by next
    pub sits : Sits p.plan g next to waits

  abbrev pub StepTo : State → Move → List ℕ → Here → List Wait → Type 0
  StepTo st by lines to waits = Stepped names g t p.plan is_game.states is_game.laid is_game.routines held caps_held st by lines to waits

  pub moved_by : (st : State) (by : Move) (lines : List ℕ) (to : Here) (waits : List Wait) → StepTo st by lines to waits → Moved st by to waits
  moved_by st by lines to waits k = record { next = k.next; step = k.steps; sits = k.sits }

  -- a refusal after which the weaver has the turn
  pub record Refusal (st : State) : Type 0 where
    pub first : State
    pub step : WovenStep p t st Refuse first
    pub stage : ℕ
    pub what : Primitive
    pub later : List Primitive
    pub phase : first.board.phase ≡ RefusedPhase stage what later
    pub stack : first.board.stack ≡ st.board.stack

  -- the program has ended
  pub record Finished (st : State) (by : Move) : Type 0 where
    pub next : State
    pub step : WovenStep p t st by next
    pub over : next.board.phase ≡ OverPhase

  pub record Resuming (st : State) (to : Here) (waits : List Wait) : Type 0 where
    pub refusal : Refusal st
    pub then : Moved refusal.first Skip to waits

  pub record Stopping (st : State) (seam : ℕ) : Type 0 where
    pub refusal : Refusal st
    pub then : Finished refusal.first StopMove
    pub at : front_seam refusal.first.board.stack ≡ Some seam

  -- what a move leaves that leads somewhere
  abbrev pub Found : State → List Wait → Move → Next → Type 0
  Found st waits by (To to) = Moved st by to waits
  Found st waits by (Into to call) = (by ≡ On) × Moved st by to (call ∷ waits)
  Found st waits by (Back to) = (by ≡ On) × Moved st by to (without_first waits)
  Found st waits by Over = (by ≡ On) × Finished st by
  Found st waits by (Resumed to) = (by ≡ Refuse) × Resuming st to waits
  Found st waits by (Stopped seam) = (by ≡ Refuse) × Stopping st seam

  abbrev refusal_by : (st : State) (j i : ℕ) (a : Primitive) → Refuses names g t p.plan is_game.states is_game.laid is_game.routines held caps_held st j i a → Refusal st
  refusal_by st j i a r = record { first = r.first; step = r.refuses; stage = i; what = a; later = r.later; phase = r.is_refused; stack = r.same_stack }

  module _ (st : State) (here : Here) (waits : List Wait) (sits : Sits p.plan g st here waits) where
    inner_found : (spot : Spot) (by : Move) (n : Next) → slice_get g.spots here.pos ≡ Some spot → is_inner spot ≡ true → weavers_in (Some spot) ≡ false
        → option_map To (within g t here spot by) ≡ Some n → Found st waits by n
    inner_found spot by n es inner env e =
        let m = mapped To (within g t here spot by) n e in
        subst (λ z. Found st waits by z) m.2
        (moved_by st by _ m.0 waits (inner_step names g t p.plan is_game.states is_game.laid is_game.routines held caps_held st here waits by spot m.0 sits es inner env m.1))

    call_found : (split : Bool) (j f n2 : ℕ) (by : Move) (n : Next) → slice_get g.spots here.pos ≡ Some (call_spot split j f n2) → called g t here j f n2 split by ≡ Some n → Found st waits by n
    call_found split j f n2 On n es e =
        let m = mapped (λ m. Into (landing (g.entry f, here.state) m) (record { seam = j; split = split; back = n2; state = here.state; mem = here.mem }))
        (option_and_then (λ r. mem_in t r.callee) (into_at t j split here.mem)) n e in
        subst (λ z. Found st waits On z) m.2 (
          refl,
          moved_by st On _ (landing (g.entry f, here.state) m.0) (record { seam = j; split = split; back = n2; state = here.state; mem = here.mem } ∷ waits)
              (call_step names g t p.plan is_game.states is_game.laid is_game.routines held caps_held st here waits split j f n2 m.0 sits es m.1),
        )
    call_found split j f n2 _ n es e = absurd (none-some n e)

    -- the seam of what is asked
    asked_seam : (j i : ℕ) (a : Primitive) → slice_get g.spots here.pos ≡ Some (AskedSpot j i a) → front_seam st.board.stack ≡ Some j
    asked_seam j i a es = on st.board.stack sits.stands
      where
        on : (stack : List Frame) → StandsOn (Least g) g stack st.board.kept st.board.caps st.board.word st.board.phase here.pos here.state (map ret_of waits) → front_seam stack ≡ Some j
        on [] stands = absurd stands
        on (frame ∷ frames) stands =
            let sn = see (Least g) g.spots g.policy (g.exit stands.0) frame st.board.caps st.board.word st.board.phase here.pos here.state stands.1 in
            (asked_here j i a frame st.board.phase sn.0 (same_Some sn.0 (AskedSpot j i a) (sym sn.1 ∙ es)) sn.2).is_seam

    refusal_found : (j i : ℕ) (a : Primitive) (pair : ℕ × ℕ) (n : Next) → slice_get g.spots here.pos ≡ Some (AskedSpot j i a) → resumed g here.pos here.state ≡ Some pair
        → (row : Option TryRow) → try_at t j i here.mem ≡ row → refusing t j pair row ≡ Some n → Found st waits Refuse n
    refusal_found j i a pair n es er None row e = absurd (none-some n e)
    refusal_found j i a pair n es er (Some r) row e = by r.refused refl e
      where
        by : (o : Option MemId) → r.refused ≡ o → going_on t j pair o ≡ Some n → Found st waits Refuse n
        by None en e =
            let k = stop_step names g t p.plan is_game.states is_game.laid is_game.routines held caps_held st here waits j i a pair r sits es er row en in
            let refusal = refusal_by st j i a k.refusal in
            subst (λ z. Found st waits Refuse z) (same_Some (Stopped j) n e) (
              refl,
              record {
                refusal = refusal;
                then = record { next = k.then.next; step = k.then.steps; over = k.then.over };
                at = ap front_seam refusal.stack ∙ asked_seam j i a es;
              },
            )
        by (Some m0) en e =
            let m = mapped (λ n. Resumed (landing pair n)) (mem_in t m0) n e in
            let kept : refused_with t (try_at t j i here.mem) ≡ Some m.0 = ap (refused_with t) row ∙ ap (option_and_then (mem_in t)) en ∙ m.1 in
            let k = resume_step names g t p.plan is_game.states is_game.laid is_game.routines held caps_held st here waits j i m.0 a pair sits es er kept in
            subst (λ z. Found st waits Refuse z) m.2
            (refl, record { refusal = refusal_by st j i a k.refusal; then = moved_by k.refusal.first Skip _ (landing pair m.0) waits k.then })

    asked_found : (j i : ℕ) (a : Primitive) (by : Move) (n : Next) → slice_get g.spots here.pos ≡ Some (AskedSpot j i a) → (o : Option (ℕ × ℕ)) → resumed g here.pos here.state ≡ o
        → asked g t here (AskedSpot j i a) j i by o ≡ Some n → Found st waits by n
    asked_found j i a Refuse n es (Some pair) er e = refusal_found j i a pair n es er (try_at t j i here.mem) refl e
    asked_found j i a Refuse n es None er e = inner_found (AskedSpot j i a) Refuse n es refl refl e
    asked_found j i a by n es o er e = inner_found (AskedSpot j i a) by n es refl refl e

  end_found : (st : State) (here : Here) (waits : List Wait) → Sits p.plan g st here waits → (f : ℕ) (by : Move) (n : Next) → slice_get g.spots here.pos ≡ Some (Exit f)
      → ended g t here waits by ≡ Some n → Found st waits by n
  end_found st here [] sits f On n es e =
      let k = end_step names g t p.plan is_game.states is_game.laid is_game.routines held caps_held st here f sits es in
      subst (λ z. Found st [] On z) (same_Some Over n e) (refl, record { next = k.next; step = k.steps; over = k.over })
  end_found st here (call ∷ waits) sits f On n es e =
      let x = chained (λ exit. option_map (λ m. Back (landing (call.back, returned g.states (kept_at call.split call.state) here.state) m))
      (option_and_then (λ r. mem_in t r.after) (back_at t call.seam call.split call.mem exit))) (state_of t here.mem) n e in
      let m = mapped (λ m. Back (landing (call.back, returned g.states (kept_at call.split call.state) here.state) m))
      (option_and_then (λ r. mem_in t r.after) (back_at t call.seam call.split call.mem x.0)) n x.2 in
      subst (λ z. Found st (call ∷ waits) On z) m.2 (
        refl,
        moved_by st On _ (landing (call.back, returned g.states (kept_at call.split call.state) here.state) m.0) waits
            (return_step names g t p.plan is_game.states is_game.laid is_game.routines held caps_held st here call waits f x.0 m.0 sits es x.1 m.1),
      )
  end_found st here waits sits f _ n es e = absurd (none-some n e)

  pub found : (st : State) (here : Here) (waits : List Wait) → Sits p.plan g st here waits → (spot : Spot) (by : Move) (n : Next) → slice_get g.spots here.pos ≡ Some spot
      → weavers_in (Some spot) ≡ false → next_of g t here waits spot by ≡ Some n → Found st waits by n
  found st here waits sits (CallSpot j f n2) by n es env e = call_found st here waits sits false j f n2 by n es e
  found st here waits sits (SplitCall j f n2) by n es env e = call_found st here waits sits true j f n2 by n es e
  found st here waits sits (Exit f) by n es env e = end_found st here waits sits f by n es e
  found st here waits sits (AskedSpot j i a) by n es env e = asked_found st here waits sits j i a by n es (resumed g here.pos here.state) refl e
  found st here waits sits (VisitSpot j i a) by n es env e = cc
  found st here waits sits (StepSpot k) by n es env e = inner_found st here waits sits (StepSpot k) by n es refl refl e
  found st here waits sits (Branch l r) by n es env e = inner_found st here waits sits (Branch l r) by n es refl refl e
  found st here waits sits (LabelSpot j l k) by n es env e = inner_found st here waits sits (LabelSpot j l k) by n es refl refl e
  found st here waits sits (OpenSpot j d k) by n es env e = inner_found st here waits sits (OpenSpot j d k) by n es refl refl e
  found st here waits sits (CloseSpot j d k) by n es env e = inner_found st here waits sits (CloseSpot j d k) by n es refl refl e
