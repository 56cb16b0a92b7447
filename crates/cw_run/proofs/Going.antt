-- A run from a state, entry by entry: where it is, and what was told on the way.
use Rattle.std.proofs.Common.{◌≡◌, ℕ, List, [], ◌∷◌, ◌++◌, map, false, Option, Some, None, refl, sym, ap, ap₂, ◌∙◌, subst, append_assoc, append-nil, option_and_then}
use Rattle.std.specs.Prelude.{slice_get, option_map}
use Rattle.std.proofs.lemmas.Option.{same_Some}
use Rattle.cw_rights.specs.declared.capabilities.Caps.{Caps}
use Rattle.cw_rights.specs.declared.capabilities.Primitive.{Primitive}
use Rattle.cw_rights.specs.Words.{Word}
use Rattle.cw_rights.specs.Policies.{PlainPolicy, start_caps, primitives}
use Rattle.cw_certs.specs.declared.moves.Move.{Move}
use Rattle.cw_certs.specs.Tables.{Table}
use Rattle.cw_syntax.specs.Plans.{Plan, Routine}
use Rattle.cw_syntax.specs.Frames.{Frame, new_frame, stack_of, start_stack}
use Rattle.cw_model.specs.Boards.{Problem, Phase, Over, Weaver, Environment, begin, onward, start_board, turn_of}
use Rattle.cw_model.specs.Runs.{State, start_state}
use Rattle.cw_game.specs.declared.spots.Spot.{Spot}
use Rattle.cw_game.specs.Games.{AreStates, Game, weavers_in}
use Rattle.cw_game.specs.Reached.{Reached}
use Rattle.cw_game.specs.Places.{IsLaidOut, HasRoutines}
use Rattle.cw_game.specs.Standing.{StandsOn}
use Rattle.cw_game.specs.Together.{at_start}
use Rattle.cw_game.proofs.Link.{starts_at, environments_turn}
use Rattle.cw_trace.specs.Traces.{Names, reached_lines}
use Rattle.cw_trace.specs.Told.{spot_lines, lines_at, label_at}
use Rattle.cw_run.specs.Walks.{at_pos, Here, Wait, ret_of, config_of, Next, landing_of, stop_lines, waits_after, next_of, Stopped, with_stop, next_here, Arrives, LandsAt, Goes, start_here}
use Rattle.cw_run.proofs.Sees.{see, below}
use Rattle.cw_run.proofs.Sits.{Waiting, Least, Sits, arrived}
use Rattle.cw_run.proofs.Runs.{IsRunAt, IsOver, LeadsTo, rested, leads_on}

-- where the run is
abbrev pub IsAt : Names → Game → Table → Plan → State → (List ℕ → List ℕ) → List Move → List ℕ → Option Here → List Wait → Type 0
IsAt names g t plan from own entries text (Some h) waits = IsRunAt names g t plan from own entries text h waits × (weavers_in (slice_get g.spots h.pos) ≡ false)
IsAt names g t plan from own entries text None waits = IsOver names g t plan from own entries text

-- what was appended so far is the trace of the run so far
abbrev pub RunSoFar : Names → Game → Table → Plan → State → (List ℕ → List ℕ) → List Move → Option Here → List Wait → List ℕ → List ℕ → Type 0
RunSoFar names g t plan from own entries landing waits old new = (text : List ℕ) × (new ≡ old ++ text) × IsAt names g t plan from own entries text landing waits

module _ (names : Names) (g : Game) (t : Table) (plan : Plan) (right : AreStates g.policy g.spots g.states (Reached g.policy g.spots g.states)) (laid : IsLaidOut plan g)
    (has_them : HasRoutines plan g)
    (held : ℕ → Caps) (holds : (q : ℕ) (w : Word) (c : Caps) → Reached g.policy g.spots g.states q w c → held q ≡ c)
    (own : List ℕ → List ℕ) (own_none : own [] ≡ []) where
  abbrev problem : Problem
  problem = record { plan = plan; policy = g.policy }

  abbrev label_of : Here → List ℕ
  label_of h = label_at names g.policy (held h.state) (slice_get g.spots h.pos)

  abbrev label : Here → List ℕ
  label h = own (label_of h)

  abbrev start : State
  start = start_state problem t

  -- The start.
  start_stack_is : (r : Routine) → slice_get plan.routines plan.main ≡ Some r → start_stack plan ≡ new_frame plan.main r ∷ []
  start_stack_is r e = ap (λ o. stack_of (option_map (new_frame plan.main) o)) e

  the_main : (r : Routine) × (slice_get plan.routines plan.main ≡ Some r)
  the_main = (has_them.main.0, ap (slice_get plan.routines) laid.main ∙ has_them.main.1)

  pub start_sits : Sits plan g (start_state problem t) (start_here g t) []
  start_sits = record {
    goes = at_start;
    stands = starts_at (Least g) g plan right laid has_them;
    mems = refl;
    waiting = subst (λ fs. Waiting fs (None ∷ []) []) (sym (ap below (start_stack_is the_main.0 the_main.1))) tt;
  }

  -- nothing is told at the start: an entry is its first item
  entry_untold : (policy : PlainPolicy) (caps : Caps) (word : Word) (r : Routine) (later : List Primitive) (kept : List (Option Caps))
      → let stack : List Frame = new_frame plan.main r ∷ [] in
      reached_lines names policy (record { stack = stack; kept = kept; caps = caps; word = word; phase = onward 0 later }) (onward 0 later) ≡ []
  entry_untold policy caps word r [] kept = refl
  entry_untold policy caps word r (a ∷ later) kept = refl

  start_untold : label_of (start_here g t) ≡ []
  start_untold =
      sym (arrived names g t plan right laid has_them held holds (start_board problem) (start_here g t) [] (starts_at (Least g) g plan right laid has_them))
      ∙ ap (λ (stack : List Frame). reached_lines names g.policy
      (record { stack = stack; kept = None ∷ []; caps = start_caps g.policy; word = []; phase = begin g.policy stack }) (begin g.policy stack)) (start_stack_is the_main.0 the_main.1)
      ∙ entry_untold g.policy (start_caps g.policy) [] the_main.0 (primitives g.policy false) (None ∷ [])

  start_run : IsRunAt names g t plan start own [] ([] ++ label (start_here g t)) (start_here g t) []
  start_run = record {
    state = start;
    run = record { steps = []; follows = tt; reads = refl; tells = sym (ap own start_untold ∙ own_none); comes = refl };
    sits = start_sits;
  }

  -- the label of the landing where the run comes to rest
  label_here : (to here : Here) → here ≡ at_pos here.pos to → own (label_at names g.policy (held to.state) (slice_get g.spots here.pos)) ≡ label here
  label_here to here e = ap (λ (q : ℕ). own (label_at names g.policy (held q) (slice_get g.spots here.pos))) (sym (ap (λ (h : Here). h.state) e))

  pub begun : (here : Here) (old new : List ℕ) → Arrives names g t held own (start_here g t) here old new → RunSoFar names g t plan start own [] (Some here) [] old new
  begun here old new a = (
    label here,
    a.told ∙ ap (λ l. old ++ l) (label_here (start_here g t) here a.same),
    rested names g t plan right laid has_them held holds start own own_none [] [] (start_here g t) here [] start_run a.rests a.same,
  )

  -- what was told on the way
  told_so : (old text lines stops lab mid new : List ℕ) → mid ≡ old ++ text → new ≡ ((mid ++ lines) ++ stops) ++ lab → new ≡ old ++ ((text ++ (lines ++ stops)) ++ lab)
  told_so old text lines stops lab mid new em en =
      en
      ∙ ap (λ l. l ++ lab) (append_assoc mid lines stops ∙ ap (λ l. l ++ (lines ++ stops)) em ∙ append_assoc old text (lines ++ stops))
      ∙ append_assoc old (text ++ (lines ++ stops)) lab

  told_end : (old text lines stops mid new : List ℕ) → mid ≡ old ++ text → new ≡ (mid ++ lines) ++ stops → new ≡ old ++ (text ++ (lines ++ stops))
  told_end old text lines stops mid new em en =
      en ∙ append_assoc mid lines stops ∙ ap (λ l. l ++ (lines ++ stops)) em ∙ append_assoc old text (lines ++ stops)

  grouped : (text lines stops lab : List ℕ) → text ++ (lines ++ (stops ++ lab)) ≡ (text ++ (lines ++ stops)) ++ lab
  grouped text lines stops lab = ap (λ l. text ++ l) (sym (append_assoc lines stops lab)) ∙ sym (append_assoc text (lines ++ stops) lab)

  stop_is : (old : List ℕ) (n : Next) → with_stop own old n ≡ old ++ stop_lines own n
  stop_is old (Stopped seam) = refl
  stop_is old _ = sym (append-nil old)

  landed : (from : State) (entries : List Move) (text lines old mid new : List ℕ) (n : Next) (waits : List Wait) (o landing : Option Here) → mid ≡ old ++ text
      → LandsAt names g t held own n o landing (mid ++ own lines) new → LeadsTo names g t plan right laid has_them held holds from own own_none entries text lines n o waits
      → RunSoFar names g t plan from own entries landing waits old new
  landed from entries text lines old mid new n waits (Some to) (Some here) em a k =
      let all = text ++ (own lines ++ stop_lines own n) in
      let k2 = subst (λ l. IsRunAt names g t plan from own entries l to waits) (grouped text (own lines) (stop_lines own n) (label to)) k in
      let r = rested names g t plan right laid has_them held holds from own own_none entries all to here waits k2 a.rests a.same in (
        all ++ label here,
        told_so old text (own lines) (stop_lines own n) (label here) mid new em
            (a.told ∙ ap₂ (λ l m. l ++ m) (stop_is (mid ++ own lines) n) (label_here to here a.same)),
        r,
      )
  landed from entries text lines old mid new n waits None None em en k =
      (text ++ (own lines ++ stop_lines own n), told_end old text (own lines) (stop_lines own n) mid new em (en ∙ stop_is (mid ++ own lines) n), k)
  landed from entries text lines old mid new n waits (Some to) None em l k = absurd l
  landed from entries text lines old mid new n waits None (Some here) em l k = absurd l

  -- what stands at the landing of a run
  pub spot_of : (s : State) (h : Here) (waits : List Wait) → Sits plan g s h waits → (spot : Spot) × (slice_get g.spots h.pos ≡ Some spot)
  spot_of s h waits sits = on s.board.stack s.board.kept s.board.caps s.board.word s.board.phase sits.stands
    where
      on : (stack : List Frame) (kept : List (Option Caps)) (caps : Caps) (word : Word) (phase : Phase) → StandsOn (Least g) g stack kept caps word phase h.pos h.state (map ret_of waits)
          → (spot : Spot) × (slice_get g.spots h.pos ≡ Some spot)
      on [] kept caps word phase stands = absurd stands
      on (frame ∷ frames) kept caps word phase stands =
          let sn = see (Least g) g.spots g.policy (g.exit stands.0) frame caps word phase h.pos h.state stands.1 in (sn.0, sn.1)

  -- One entry more.
  pub went : (from : State) (entries : List Move) (h : Here) (waits waits2 : List Wait) (landing : Option Here) (old mid new : List ℕ) (by : Move) (n : Next)
      → RunSoFar names g t plan from own entries (Some h) waits old mid → next_here g t h waits by ≡ Some n
      → Goes names g t held own n waits waits2 landing (mid ++ own (lines_at names g.policy g.main (slice_get g.spots h.pos) by)) new
      → RunSoFar names g t plan from own (entries ++ by ∷ []) landing waits2 old new
  went from entries h waits waits2 landing old mid new by n (text, em, run) en go =
      let sp = spot_of run.0.state h waits run.0.sits in
      let es = sp.1 in
      let en2 : next_of g t h waits sp.0 by ≡ Some n = sym (ap (option_and_then (λ s. next_of g t h waits s by)) es) ∙ en in
      let lands = subst (λ o. LandsAt names g t held own n (landing_of n) landing (mid ++ own (lines_at names g.policy g.main o by)) new) es go.lands in
      subst (λ ws. RunSoFar names g t plan from own (entries ++ by ∷ []) landing ws old new) (sym go.waiting)
      (landed from (entries ++ by ∷ []) text (spot_lines names g.policy g.main sp.0 by) old mid new n (waits_after n waits) (landing_of n) landing em lands
      (leads_on names g t plan right laid has_them held holds from own own_none entries text h waits run.0 sp.0 by n es (sym (ap weavers_in es) ∙ run.1) en2))

  -- At rest it is the environment's turn, and nothing is over.
  pub not_over : (s : State) (h : Here) (waits : List Wait) → Sits plan g s h waits → s.board.phase ≡ Over → ⊥
  not_over s h waits sits e = on s.board.stack (subst (λ ph. StandsOn (Least g) g s.board.stack s.board.kept s.board.caps s.board.word ph h.pos h.state (map ret_of waits)) e sits.stands)
    where
      on : (stack : List Frame) → StandsOn (Least g) g stack s.board.kept s.board.caps s.board.word Over h.pos h.state (map ret_of waits) → ⊥
      on [] h = h
      on (frame ∷ frames) h = h.1

  pub environments : (s : State) (h : Here) (waits : List Wait) → Sits plan g s h waits → weavers_in (slice_get g.spots h.pos) ≡ false → turn_of s.board.phase ≡ Some Weaver → ⊥
  environments s h waits sits env w =
      let e = environments_turn (Least g) g plan right laid has_them s.board (config_of h waits) sits.stands env in
      let k = same_Some Environment Weaver (sym e ∙ w) in cc
