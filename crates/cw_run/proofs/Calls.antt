-- Calls, returns, the end of the program, and what follows a refusal that a stop can answer.
use Rattle.std.proofs.Common.{◌≡◌, ℕ, List, [], ◌∷◌, map, Bool, true, false, Option, Some, None, is_some, option_map, option_and_then, refl, sym, ap, ap₂, ◌∙◌, subst}
use Rattle.std.specs.Prelude.{slice_get}
use Rattle.std.proofs.lemmas.Option.{none-some, same_Some}
use Rattle.cw_rights.specs.declared.capabilities.Caps.{Caps}
use Rattle.cw_rights.specs.Words.{Word}
use Rattle.cw_certs.specs.declared.moves.Move.{Move}
use Rattle.cw_certs.specs.declared.moves.Move.TheVariants.{On}
use Rattle.cw_certs.specs.Tables.{Table, into_at, back_at, state_of}
use Rattle.cw_syntax.specs.Plans.{Callee, Call, Plan}
use Rattle.cw_syntax.specs.Frames.{Todo, End, Frame, Way, settle, pass, frame_of}
use Rattle.cw_syntax.specs.Frames.{On as OnWay}
use Rattle.cw_model.specs.Boards.{Problem, Phase, Free, FreeSplit, Over, Board, landed, moved, mode_of}
use Rattle.cw_model.specs.Runs.{mem_in, called_with, returned_with, memories, State, WovenStep}
use Rattle.cw_model.proofs.Moving.{board_on}
use Rattle.cw_game.specs.declared.spots.Spot.{Spot}
use Rattle.cw_game.specs.declared.spots.Spot.TheVariants.{Exit, Call as CallSpot, SplitCall}
use Rattle.cw_game.specs.Games.{AreStates, Game, Ret, at_pair, leads_in, leads_to, bad_in, returned}
use Rattle.cw_game.specs.Reached.{Reached}
use Rattle.cw_game.specs.Places.{IsLaidOut, HasRoutines}
use Rattle.cw_game.specs.Pairs.{call_spot, kept_at}
use Rattle.cw_game.specs.Standing.{StandsOn}
use Rattle.cw_game.specs.Together.{Together, by_move}
use Rattle.cw_game.proofs.Moves.{step_of}
use Rattle.cw_game.proofs.Link.{violates_bad, board_moves}
use Rattle.cw_lemmas.proofs.Truths.{not_both}
use Rattle.cw_trace.specs.Traces.{Names, move_lines}
use Rattle.cw_trace.specs.Told.{spot_lines}
use Rattle.cw_run.specs.Walks.{Here, Wait, ret_of, config_of, mems_of, landing}
use Rattle.cw_run.proofs.Sees.{Sees, sees_visit, sees_asked, sees_step, sees_branch, sees_label, sees_open, sees_close, sees_call, sees_split, sees_end, see, below}
use Rattle.cw_run.proofs.Sits.{IsCallOf, Waiting, Least, Sits, Stepped, arrived, told_by, state_of_board}

module _ (names : Names) (g : Game) (t : Table) (plan : Plan) (right : AreStates g.policy g.spots g.states (Reached g.policy g.spots g.states)) (laid : IsLaidOut plan g) (has : HasRoutines plan g)
    (held : ℕ → Caps) (holds : (q : ℕ) (w : Word) (c : Caps) → Reached g.policy g.spots g.states q w c → held q ≡ c) where
  abbrev problem : Problem
  problem = record { plan = plan; policy = g.policy }

  abbrev Step : State → Move → List ℕ → Here → List Wait → Type 0
  Step s by lines to waits = Stepped names g t plan right laid has held holds s by lines to waits

  abbrev phase_of : Bool → Phase
  phase_of true = FreeSplit
  phase_of false = Free

  abbrev wait_at : Here → (seam back : ℕ) → Bool → Wait
  wait_at h seam back split = record { seam = seam; split = split; back = back; state = h.state; mem = h.mem }

  some_mode : (split : Bool) (caps : Caps) → is_some (mode_of split caps) ≡ split
  some_mode true caps = refl
  some_mode false caps = refl

  -- what a call is at the front
  pub record IsCallHere (j f : ℕ) (split : Bool) (frame : Frame) (phase : Phase) : Type 0 where
    pub at : ℕ
    pub callee : Callee
    pub rest : Frame
    pub is_frame : frame ≡ Todo (Call at j callee) ∷ rest
    pub is_phase : phase ≡ phase_of split
    pub is_callee : callee.number ≡ f

  spot_call : Spot → ℕ × (ℕ × ℕ)
  spot_call (CallSpot j f n) = (j, (f, n))
  spot_call (SplitCall j f n) = (j, (f, n))
  spot_call s = (0, (0, 0))

  pub call_here : (j f n : ℕ) (split : Bool) (frame : Frame) (phase : Phase) (spot : Spot) → spot ≡ call_spot split j f n → Sees frame phase spot → IsCallHere j f split frame phase
  unfolding spot_call
  call_here j f n true _ _ _ e (sees_split {at = at} {j = j2} {callee = callee} {is = is} {n = n2}) =
      let k = ap spot_call e in
      record {
        at = at;
        callee = callee;
        rest = is;
        is_frame = ap (λ x. Todo (Call at x callee) ∷ is) (ap (λ (x : ℕ × (ℕ × ℕ)). x.0) k);
        is_phase = refl;
        is_callee =
            ap (λ (x : ℕ × (ℕ × ℕ)). x.1.0) k;
      }
  call_here j f n false _ _ _ e (sees_call {at = at} {j = j2} {callee = callee} {is = is} {n = n2}) =
      let k = ap spot_call e in
      record {
        at = at;
        callee = callee;
        rest = is;
        is_frame = ap (λ x. Todo (Call at x callee) ∷ is) (ap (λ (x : ℕ × (ℕ × ℕ)). x.0) k);
        is_phase = refl;
        is_callee =
            ap (λ (x : ℕ × (ℕ × ℕ)). x.1.0) k;
      }
  call_here j f n true _ _ _ e sees_call = cc
  call_here j f n false _ _ _ e sees_split = cc
  call_here j f n true _ _ _ e (sees_visit h) = cc
  call_here j f n false _ _ _ e (sees_visit h) = cc
  call_here j f n true _ _ _ e (sees_asked h) = cc
  call_here j f n false _ _ _ e (sees_asked h) = cc
  call_here j f n true _ _ _ e (sees_step h) = cc
  call_here j f n false _ _ _ e (sees_step h) = cc
  call_here j f n true _ _ _ e (sees_branch h) = cc
  call_here j f n false _ _ _ e (sees_branch h) = cc
  call_here j f n true _ _ _ e sees_label = cc
  call_here j f n false _ _ _ e sees_label = cc
  call_here j f n true _ _ _ e sees_open = cc
  call_here j f n false _ _ _ e sees_open = cc
  call_here j f n true _ _ _ e sees_close = cc
  call_here j f n false _ _ _ e sees_close = cc
  call_here j f n true _ _ _ e sees_end = cc
  call_here j f n false _ _ _ e sees_end = cc

  -- a step at a call pushes a frame and keeps by its mode
  pushed_frame : (o : Option Frame) (stack next : List Frame) → option_map (λ n. n ∷ stack) o ≡ Some next → below next ≡ stack
  pushed_frame None stack next e = absurd (none-some next e)
  pushed_frame (Some n) stack next e = ap below (sym (same_Some (n ∷ stack) next e))

  called_way : (at j : ℕ) (callee : Callee) (rest : Frame) (frames : List Frame) (way : Way) (next : List Frame)
      → pass plan ((Todo (Call at j callee) ∷ rest) ∷ frames) way ≡ Some next → below next ≡ (Todo (Call at j callee) ∷ rest) ∷ frames
  called_way at j callee rest frames OnWay next e = pushed_frame (frame_of plan callee.number) ((Todo (Call at j callee) ∷ rest) ∷ frames) next e
  called_way at j callee rest frames _ next e = absurd (none-some next e)

  called_stack : (split : Bool) (at j : ℕ) (callee : Callee) (rest : Frame) (frames : List Frame) (kept : List (Option Caps)) (caps : Caps) (word : Word) (next : Board)
      → moved problem (board_on ((Todo (Call at j callee) ∷ rest) ∷ frames) kept caps word (phase_of split)) (phase_of split) On ≡ Some next
      → (below next.stack ≡ (Todo (Call at j callee) ∷ rest) ∷ frames) × (next.kept ≡ mode_of split caps ∷ kept)
  called_stack true at j callee rest frames kept caps word next e =
      let w = step_of problem (Some caps) (board_on ((Todo (Call at j callee) ∷ rest) ∷ frames) kept caps word FreeSplit) next On (Some OnWay) refl e in
      (ap (λ (n : Board). below n.stack) (sym w.2.2) ∙ called_way at j callee rest frames w.0 w.2.0 w.2.1, ap (λ (n : Board). n.kept) (sym w.2.2))
  called_stack false at j callee rest frames kept caps word next e =
      let w = step_of problem None (board_on ((Todo (Call at j callee) ∷ rest) ∷ frames) kept caps word Free) next On (Some OnWay) refl e in
      (ap (λ (n : Board). below n.stack) (sym w.2.2) ∙ called_way at j callee rest frames w.0 w.2.0 w.2.1, ap (λ (n : Board). n.kept) (sym w.2.2))

  pub called_memory : (split : Bool) (at j : ℕ) (callee : Callee) (rest : Frame) (frames : List Frame) (kept : List (Option Caps)) (caps : Caps) (word : Word) (ms : List ℕ)
      → memories problem t (board_on ((Todo (Call at j callee) ∷ rest) ∷ frames) kept caps word (phase_of split)) ms (phase_of split) On ≡ called_with t split j ms
  called_memory true at j callee rest frames kept caps word ms = refl
  called_memory false at j callee rest frames kept caps word ms = refl

  call_leads : (split : Bool) (p q j f n : ℕ) (rets : List Ret)
      → leads_in g p q rets (Some (call_spot split j f n)) On ≡ Some (at_pair (g.entry f) q (record { back = n; kept = kept_at split q } ∷ rets))
  call_leads true p q j f n rets = refl
  call_leads false p q j f n rets = refl

  call_good : (split : Bool) (q j f n : ℕ) → bad_in g q (Some (call_spot split j f n)) ≡ false
  call_good true q j f n = refl
  call_good false q j f n = refl

  call_on : (frame : Frame) (frames : List Frame) (kept : List (Option Caps)) (caps : Caps) (word : Word) (phase : Phase) (h : Here) (waits : List Wait) (split : Bool) (j f n m : ℕ)
      → let b = board_on (frame ∷ frames) kept caps word phase in Together problem g b (config_of h waits) → StandsOn (Least g) g (frame ∷ frames) kept caps word phase h.pos h.state (map ret_of waits)
      → Waiting frames kept waits → slice_get g.spots h.pos ≡ Some (call_spot split j f n) → option_and_then (λ r. mem_in t r.callee) (into_at t j split h.mem) ≡ Some m
      → Step (state_of_board b (mems_of h waits)) On (spot_lines names g.policy g.main (call_spot split j f n) On) (landing (g.entry f, h.state) m) (wait_at h j n split ∷ waits)
  call_on frame frames kept caps word phase h waits split j f n m goes stands waiting es em =
      let sn = see (Least g) g.spots g.policy (g.exit stands.0) frame caps word phase h.pos h.state stands.1 in
      let sees : Sees frame phase (call_spot split j f n) = subst (λ o. Sees frame phase o) (same_Some sn.0 (call_spot split j f n) (sym sn.1 ∙ es)) sn.2 in
      by (call_here j f n split frame phase (call_spot split j f n) refl sees)
    where
      by : IsCallHere j f split frame phase
          → Step (state_of_board (board_on (frame ∷ frames) kept caps word phase) (mems_of h waits)) On (spot_lines names g.policy g.main (call_spot split j f n) On)
          (landing (g.entry f, h.state) m) (wait_at h j n split ∷ waits)
      by c =
          let rets = map ret_of waits in
          let frame2 : Frame = Todo (Call c.at j c.callee) ∷ c.rest in
          let b = board_on (frame ∷ frames) kept caps word phase in
          let cf = config_of h waits in
          let d = at_pair (g.entry f) h.state (record { back = n; kept = kept_at split h.state } ∷ rets) in
          let leads : leads_to g cf On ≡ Some d = ap (λ o. leads_in g h.pos h.state rets o On) es ∙ call_leads split h.pos h.state j f n rets in
          let good : bad_in g h.state (slice_get g.spots h.pos) ≡ false = ap (bad_in g h.state) es ∙ call_good split h.state j f n in
          let to = board_moves (Least g) g plan right laid has b cf d On stands good leads in
          let eb : b ≡ board_on (frame2 ∷ frames) kept caps word (phase_of split) = ap₂ (λ (fr : Frame) (ph : Phase). board_on (fr ∷ frames) kept caps word ph) c.is_frame c.is_phase in
          let stay = called_stack split c.at j c.callee c.rest frames kept caps word to.0 (sym (ap (λ (y : Board). moved problem y y.phase On) eb) ∙ to.1.1) in
          let ms : List ℕ = map (λ (w : Wait). w.mem) waits in
          let memory : memories problem t b (h.mem ∷ ms) b.phase On ≡ Some (m ∷ (h.mem ∷ ms)) =
          ap (λ (y : Board). memories problem t y (h.mem ∷ ms) y.phase On) eb ∙ called_memory split c.at j c.callee c.rest frames kept caps word (h.mem ∷ ms)
          ∙ ap (option_map (λ callee. callee ∷ (h.mem ∷ ms))) em in
          let waiting2 : Waiting (frame2 ∷ frames) (mode_of split caps ∷ kept) (wait_at h j n split ∷ waits) = ((c.at, c.callee, c.rest, refl), some_mode split caps, waiting) in
          record {
            next = state_of_board to.0 (m ∷ (h.mem ∷ ms));
            steps = (to.1, memory);
            sits = record {
              goes = by_move b cf On to.0 d goes to.1 leads;
              stands = to.2;
              mems = refl;
              waiting = subst (λ fs. Waiting fs to.0.kept (wait_at h j n split ∷ waits)) (sym stay.0) (subst (λ k. Waiting (frame2 ∷ frames) k (wait_at h j n split ∷ waits)) (sym stay.1) waiting2);
            };
            acts = told_by names g t plan right laid has held holds b h waits On (call_spot split j f n) stands es;
            reaches = arrived names g t plan right laid has held holds to.0 (landing (g.entry f, h.state) m) (wait_at h j n split ∷ waits) to.2;
          }

  pub call_step : (s : State) (h : Here) (waits : List Wait) (split : Bool) (j f n m : ℕ) → Sits plan g s h waits → slice_get g.spots h.pos ≡ Some (call_spot split j f n)
      → option_and_then (λ r. mem_in t r.callee) (into_at t j split h.mem) ≡ Some m
      → Step s On (spot_lines names g.policy g.main (call_spot split j f n) On) (landing (g.entry f, h.state) m) (wait_at h j n split ∷ waits)
  call_step s h waits split j f n m sits es em =
      subst (λ ms. Step (state_of_board s.board ms) On (spot_lines names g.policy g.main (call_spot split j f n) On) (landing (g.entry f, h.state) m) (wait_at h j n split ∷ waits))
      (sym sits.mems) (on s.board.stack s.board.kept s.board.caps s.board.word s.board.phase sits.goes sits.stands sits.waiting)
    where
      on : (stack : List Frame) (kept : List (Option Caps)) (caps : Caps) (word : Word) (phase : Phase) → Together problem g (board_on stack kept caps word phase) (config_of h waits)
          → StandsOn (Least g) g stack kept caps word phase h.pos h.state (map ret_of waits) → Waiting (below stack) kept waits
          → Step (state_of_board (board_on stack kept caps word phase) (mems_of h waits)) On (spot_lines names g.policy g.main (call_spot split j f n) On) (landing (g.entry f, h.state) m)
          (wait_at h j n split ∷ waits)
      on [] kept caps word phase goes stands waiting = absurd stands
      on (frame ∷ frames) kept caps word phase goes stands waiting = call_on frame frames kept caps word phase h waits split j f n m goes stands waiting es em

  -- what an end is at the front
  pub record IsEndHere (frame : Frame) (phase : Phase) : Type 0 where
    pub function : ℕ
    pub rest : Frame
    pub is_frame : frame ≡ End function ∷ rest
    pub is_phase : phase ≡ Free

  pub end_here : (f : ℕ) (frame : Frame) (phase : Phase) (spot : Spot) → spot ≡ Exit f → Sees frame phase spot → IsEndHere frame phase
  end_here f _ _ _ e (sees_end {f = f2} {is = is}) = record { function = f2; rest = is; is_frame = refl; is_phase = refl }
  end_here f _ _ _ e (sees_visit h) = cc
  end_here f _ _ _ e (sees_asked h) = cc
  end_here f _ _ _ e (sees_step h) = cc
  end_here f _ _ _ e (sees_branch h) = cc
  end_here f _ _ _ e sees_label = cc
  end_here f _ _ _ e sees_open = cc
  end_here f _ _ _ e sees_close = cc
  end_here f _ _ _ e sees_call = cc
  end_here f _ _ _ e sees_split = cc

  -- a return pops a frame
  popped_way : (f : ℕ) (is : Frame) (at j : ℕ) (callee : Callee) (rest : Frame) (frames : List Frame) (way : Way) (next : List Frame)
      → pass plan ((End f ∷ is) ∷ ((Todo (Call at j callee) ∷ rest) ∷ frames)) way ≡ Some next → below next ≡ frames
  popped_way f is at j callee rest frames OnWay next e = ap below (sym (same_Some (settle rest ∷ frames) next e))
  popped_way f is at j callee rest frames _ next e = absurd (none-some next e)

  returned_stack : (f : ℕ) (is : Frame) (at j : ℕ) (callee : Callee) (rest : Frame) (frames : List Frame) (k : Option Caps) (kept : List (Option Caps)) (caps : Caps) (word : Word) (next : Board)
      → moved problem (board_on ((End f ∷ is) ∷ ((Todo (Call at j callee) ∷ rest) ∷ frames)) (k ∷ kept) caps word Free) Free On ≡ Some next
      → (below next.stack ≡ frames) × (next.kept ≡ kept)
  returned_stack f is at j callee rest frames k kept caps word next e =
      let w = step_of problem None (board_on ((End f ∷ is) ∷ ((Todo (Call at j callee) ∷ rest) ∷ frames)) (k ∷ kept) caps word Free) next On (Some OnWay) refl e in
      (ap (λ (n : Board). below n.stack) (sym w.2.2) ∙ popped_way f is at j callee rest frames w.0 w.2.0 w.2.1, ap (λ (n : Board). n.kept) (sym w.2.2))

  return_on : (frame : Frame) (frames : List Frame) (kept : List (Option Caps)) (caps : Caps) (word : Word) (phase : Phase) (h : Here) (w : Wait) (waits : List Wait) (f exit m : ℕ)
      → let b = board_on (frame ∷ frames) kept caps word phase in Together problem g b (config_of h (w ∷ waits))
      → StandsOn (Least g) g (frame ∷ frames) kept caps word phase h.pos h.state (map ret_of (w ∷ waits))
      → Waiting frames kept (w ∷ waits) → slice_get g.spots h.pos ≡ Some (Exit f) → state_of t h.mem ≡ Some exit
      → option_and_then (λ r. mem_in t r.after) (back_at t w.seam w.split w.mem exit) ≡ Some m
      → Step (state_of_board b (mems_of h (w ∷ waits))) On (spot_lines names g.policy g.main (Exit f) On) (landing (w.back, returned g.states (kept_at w.split w.state) h.state) m) waits
  return_on frame [] kept caps word phase h w waits f exit m goes stands waiting es ex em = absurd waiting
  return_on frame (frame2 ∷ frames) [] caps word phase h w waits f exit m goes stands waiting es ex em = absurd waiting
  return_on frame (frame2 ∷ frames) (k ∷ kept) caps word phase h w waits f exit m goes stands waiting es ex em =
      let sn = see (Least g) g.spots g.policy (g.exit stands.0) frame caps word phase h.pos h.state stands.1 in
      let sees : Sees frame phase (Exit f) = subst (λ o. Sees frame phase o) (same_Some sn.0 (Exit f) (sym sn.1 ∙ es)) sn.2 in
      by (end_here f frame phase (Exit f) refl sees) waiting.0
    where
      by : IsEndHere frame phase → IsCallOf frame2 w
          → Step (state_of_board (board_on (frame ∷ (frame2 ∷ frames)) (k ∷ kept) caps word phase) (mems_of h (w ∷ waits))) On (spot_lines names g.policy g.main (Exit f) On)
          (landing (w.back, returned g.states (kept_at w.split w.state) h.state) m) waits
      by c call =
          let rets = map ret_of waits in
          let b = board_on (frame ∷ (frame2 ∷ frames)) (k ∷ kept) caps word phase in
          let cf = config_of h (w ∷ waits) in
          let d = at_pair w.back (returned g.states (kept_at w.split w.state) h.state) rets in
          let leads : leads_to g cf On ≡ Some d = ap (λ o. leads_in g h.pos h.state (map ret_of (w ∷ waits)) o On) es in
          let good : bad_in g h.state (slice_get g.spots h.pos) ≡ false = ap (bad_in g h.state) es in
          let to = board_moves (Least g) g plan right laid has b cf d On stands good leads in
          let one : Frame = End c.function ∷ c.rest in
          let two : Frame = Todo (Call call.0 w.seam call.1) ∷ call.2 in
          let eb : b ≡ board_on (one ∷ (two ∷ frames)) (k ∷ kept) caps word Free =
          ap₂ (λ (fr : Frame) (ph : Phase). board_on (fr ∷ (frame2 ∷ frames)) (k ∷ kept) caps word ph) c.is_frame c.is_phase
          ∙ ap (λ (fr : Frame). board_on (one ∷ (fr ∷ frames)) (k ∷ kept) caps word Free) call.3 in
          let stay = returned_stack c.function c.rest call.0 w.seam call.1 call.2 frames k kept caps word to.0 (sym (ap (λ (y : Board). moved problem y y.phase On) eb) ∙ to.1.1) in
          let ms : List ℕ = map (λ (w : Wait). w.mem) waits in
          let memory : memories problem t b (h.mem ∷ (w.mem ∷ ms)) b.phase On ≡ Some (m ∷ ms) =
          ap (λ (y : Board). memories problem t y (h.mem ∷ (w.mem ∷ ms)) y.phase On) eb
          ∙ ap₂ (λ (split : Bool) (o : Option ℕ). option_map (λ after. after ∷ ms) (returned_with t split two w.mem o)) waiting.1 ex
          ∙ ap (option_map (λ after. after ∷ ms)) em in
          record {
            next = state_of_board to.0 (m ∷ ms);
            steps = (to.1, memory);
            sits = record {
              goes = by_move b cf On to.0 d goes to.1 leads;
              stands = to.2;
              mems = refl;
              waiting = subst (λ fs. Waiting fs to.0.kept waits) (sym stay.0) (subst (λ ks. Waiting frames ks waits) (sym stay.1) waiting.2);
            };
            acts = told_by names g t plan right laid has held holds b h (w ∷ waits) On (Exit f) stands es;
            reaches = arrived names g t plan right laid has held holds to.0 (landing (w.back, returned g.states (kept_at w.split w.state) h.state) m) waits to.2;
          }

  pub return_step : (s : State) (h : Here) (w : Wait) (waits : List Wait) (f exit m : ℕ) → Sits plan g s h (w ∷ waits) → slice_get g.spots h.pos ≡ Some (Exit f) → state_of t h.mem ≡ Some exit
      → option_and_then (λ r. mem_in t r.after) (back_at t w.seam w.split w.mem exit) ≡ Some m
      → Step s On (spot_lines names g.policy g.main (Exit f) On) (landing (w.back, returned g.states (kept_at w.split w.state) h.state) m) waits
  return_step s h w waits f exit m sits es ex em =
      subst (λ ms. Step (state_of_board s.board ms) On (spot_lines names g.policy g.main (Exit f) On) (landing (w.back, returned g.states (kept_at w.split w.state) h.state) m) waits)
      (sym sits.mems) (on s.board.stack s.board.kept s.board.caps s.board.word s.board.phase sits.goes sits.stands sits.waiting)
    where
      on : (stack : List Frame) (kept : List (Option Caps)) (caps : Caps) (word : Word) (phase : Phase) → Together problem g (board_on stack kept caps word phase) (config_of h (w ∷ waits))
          → StandsOn (Least g) g stack kept caps word phase h.pos h.state (map ret_of (w ∷ waits)) → Waiting (below stack) kept (w ∷ waits)
          → Step (state_of_board (board_on stack kept caps word phase) (mems_of h (w ∷ waits))) On (spot_lines names g.policy g.main (Exit f) On)
          (landing (w.back, returned g.states (kept_at w.split w.state) h.state) m) waits
      on [] kept caps word phase goes stands waiting = absurd stands
      on (frame ∷ frames) kept caps word phase goes stands waiting = return_on frame frames kept caps word phase h w waits f exit m goes stands waiting es ex em

  -- The end of the program: all is over.
  pub record Finishes (s : State) (by : Move) (lines : List ℕ) : Type 0 where
    pub next : State
    pub steps : WovenStep problem t s by next
    pub over : next.board.phase ≡ Over
    pub acts : move_lines names problem s.board s.board.phase by ≡ lines

  end_on : (frame : Frame) (frames : List Frame) (kept : List (Option Caps)) (caps : Caps) (word : Word) (phase : Phase) (h : Here) (ms : List ℕ) (f : ℕ)
      → StandsOn (Least g) g (frame ∷ frames) kept caps word phase h.pos h.state [] → Waiting frames kept [] → slice_get g.spots h.pos ≡ Some (Exit f)
      → Finishes (state_of_board (board_on (frame ∷ frames) kept caps word phase) ms) On (spot_lines names g.policy g.main (Exit f) On)
  end_on frame (frame2 ∷ frames) [] caps word phase h ms f stands waiting es = absurd waiting
  end_on frame (frame2 ∷ frames) (k ∷ kept) caps word phase h ms f stands waiting es = absurd waiting
  end_on frame [] kept caps word phase h ms f stands waiting es =
      let sn = see (Least g) g.spots g.policy (g.exit stands.0) frame caps word phase h.pos h.state stands.1 in
      let sees : Sees frame phase (Exit f) = subst (λ o. Sees frame phase o) (same_Some sn.0 (Exit f) (sym sn.1 ∙ es)) sn.2 in
      let c = end_here f frame phase (Exit f) refl sees in
      let b = board_on (frame ∷ []) kept caps word phase in
      let one : Frame = End c.function ∷ c.rest in
      let b2 = board_on (one ∷ []) kept caps word Free in
      let eb : b ≡ b2 = ap₂ (λ (fr : Frame) (ph : Phase). board_on (fr ∷ []) kept caps word ph) c.is_frame c.is_phase in
      let good : bad_in g h.state (slice_get g.spots h.pos) ≡ false = ap (bad_in g h.state) es in
      let next = landed problem None b2 OnWay [] in
      record {
        next = state_of_board next ms;
        steps = (
          (
            λ v. not_both (bad_in g h.state (slice_get g.spots h.pos)) (violates_bad (Least g) g plan right laid has b (at_pair h.pos h.state []) stands v) good,
            ap (λ (y : Board). moved problem y y.phase On) eb,
          ),
          ap (λ (y : Board). memories problem t y ms y.phase On) eb,
        );
        over = refl;
        acts = told_by names g t plan right laid has held holds b h [] On (Exit f) stands es;
      }

  pub end_step : (s : State) (h : Here) (f : ℕ) → Sits plan g s h [] → slice_get g.spots h.pos ≡ Some (Exit f) → Finishes s On (spot_lines names g.policy g.main (Exit f) On)
  end_step s h f sits es = on s.board.stack s.board.kept s.board.caps s.board.word s.board.phase sits.stands sits.waiting
    where
      on : (stack : List Frame) (kept : List (Option Caps)) (caps : Caps) (word : Word) (phase : Phase) → StandsOn (Least g) g stack kept caps word phase h.pos h.state []
          → Waiting (below stack) kept [] → Finishes (state_of_board (board_on stack kept caps word phase) s.mems) On (spot_lines names g.policy g.main (Exit f) On)
      on [] kept caps word phase stands waiting = absurd stands
      on (frame ∷ frames) kept caps word phase stands waiting = end_on frame frames kept caps word phase h s.mems f stands waiting es
