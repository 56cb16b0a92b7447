-- The boards of a program are linked to the pairs of its game, by each meaning of the states.
use Rattle.std.proofs.Common.{◌≡◌, ℕ, suc, ◌+◌, List, [], ◌∷◌, Bool, true, false, cond, not, ◌&&◌, Option, Some, None, is_some, option_map, refl, sym, ap, ◌∙◌, subst}
use Rattle.std.specs.Prelude.{slice_get}
use Rattle.std.proofs.lemmas.Option.{none-some, same_Some, cond_some}
use Rattle.cw_rights.specs.declared.capabilities.Caps.{Caps}
use Rattle.cw_rights.specs.declared.capabilities.Primitive.{Primitive}
use Rattle.cw_rights.specs.declared.capabilities.Primitive.TheVariants.{Split}
use Rattle.cw_rights.specs.Words.{Word}
use Rattle.cw_rights.specs.Policies.{PlainPolicy}
use Rattle.cw_certs.specs.declared.moves.Move.{Move}
use Rattle.cw_certs.specs.declared.moves.Move.TheVariants.{Skip, Try, Grant, Refuse, On}
use Rattle.cw_syntax.specs.Plans.{Plan, Label, Open, Close, Call}
use Rattle.cw_syntax.specs.Frames.{Frame, Todo, Way, after, settle, pass, frame_of}
use Rattle.cw_syntax.specs.Frames.{On as OnWay}
use Rattle.cw_model.specs.Boards.{Problem, Phase, Visit, Asked, Refused, Free, FreeSplit, Over, Board, onward, begin, start_board, Violates, may_grant, may_refuse, can_stop, way_of}
use Rattle.cw_model.specs.Boards.{granted, passed_by, refused, moved, Moves, stop_answers, is_refused, move_of}
use Rattle.cw_model.proofs.Moving.{onward_not_over}
use Rattle.cw_game.specs.declared.spots.Spot.{Spot}
use Rattle.cw_game.specs.declared.spots.Spot.TheVariants.{Exit, Visit as VisitSpot, Asked as AskedSpot, Step as StepSpot, Branch as BranchSpot, Label as LabelSpot, Open as OpenSpot, Close as CloseSpot}
use Rattle.cw_game.specs.declared.spots.Spot.TheVariants.{Call as CallSpot, SplitCall}
use Rattle.cw_game.specs.Games.{AreStates, Game, may_refuse_in, can_stop_in, resumed_in, resumed, returned, Ret, Config, at_pair, leads_in, bad_in, leads_to}
use Rattle.cw_game.specs.Reached.{Reached}
use Rattle.cw_game.specs.Places.{IsLaidOut, HasRoutines}
use Rattle.cw_game.specs.Pairs.{Called, call_in, is_exit_in, kept_at}
use Rattle.cw_game.specs.Standing.{Meaning, Under, StandsOn, standing, StandsBy, IsGameOf}
use Rattle.cw_game.specs.Linked.{spot_at, is_bad_at, IsLastEnd, IsGameBy, TiedBy, AreLinkedBy}
use Rattle.cw_game.specs.Laws.{AreLinked}
use Rattle.cw_game.proofs.Moves.{step_of}
use Rattle.cw_game.proofs.Fronts.{Front, is_step, is_branch, is_label, is_open, is_close, is_call, is_end, front_of}
use Rattle.cw_game.proofs.Stands.{refused_at, stops_is}
use Rattle.cw_game.proofs.Link.{Stands, IsTied, tied, violates_bad, bad_violates, unrefused, board_moves, starts_at}
use Rattle.cw_lemmas.proofs.Truths.{not_both}

-- a board that isn't in Refused stands where its phase is
pub steady : (phase : Phase) → is_refused phase ≡ false → standing phase ≡ phase
steady (Refused i a later) e = cc
steady _ e = refl

free_phase : (phase : Phase) → standing phase ≡ Free → phase ≡ Free
free_phase (Refused i a later) e = cc
free_phase (Visit i a later) e = e
free_phase (Asked i a later) e = e
free_phase Free e = e
free_phase FreeSplit e = e
free_phase Over e = e

begin_over : (policy : PlainPolicy) (stack : List Frame) → begin policy stack ≡ Over → stack ≡ []
begin_over policy [] e = refl
begin_over policy (frame ∷ frames) e = absurd (onward_not_over 0 _ e)

granted_not_over : (b : Board) (i : ℕ) (a : Primitive) (later : List Primitive) → (granted b i a later).phase ≡ Over → ⊥
granted_not_over b i Split later e = cc
granted_not_over b i a later e = onward_not_over (suc i) later e

refused_not_over : (stops : Bool) (i : ℕ) (a : Primitive) (later : List Primitive) → cond stops (Refused i a later) (onward (suc i) later) ≡ Over → ⊥
refused_not_over true i a later e = cc
refused_not_over false i a later e = onward_not_over (suc i) later e

some_frame : (frames : List Frame) (o : Option Frame) → option_map (λ n. settle n ∷ frames) o ≡ Some [] → ⊥
some_frame frames None e = none-some [] e
some_frame frames (Some next) e = let w = same_Some (settle next ∷ frames) [] e in cc

pushed_frame : (stack : List Frame) (o : Option Frame) → option_map (λ n. n ∷ stack) o ≡ Some [] → ⊥
pushed_frame stack None e = none-some [] e
pushed_frame stack (Some next) e = let w = same_Some (next ∷ stack) [] e in cc

-- nothing is left after the last end alone
last_front : (plan : Plan) (g : List Spot) (pol : PlainPolicy) (x p : ℕ) (frame : Frame) → Front g pol x p frame → (frames : List Frame) (way : Way)
    → pass plan (frame ∷ frames) way ≡ Some [] → (f : ℕ) × (slice_get g p ≡ Some (Exit f)) × (frames ≡ []) × (way ≡ OnWay)
last_front plan g pol x p _ (is_step {i} {is} raw quiet ways es a) frames way e = absurd (some_frame frames (after i way is) (sym (quiet.passes plan frames way) ∙ e))
last_front plan g pol x p _ (is_branch {i} {is} left right' quiet ways es a a') frames way e = absurd (some_frame frames (after i way is) (sym (quiet.passes plan frames way) ∙ e))
last_front plan g pol x p _ (is_label {at} {mark} {j} {l} {s} {is} es a) frames way e = absurd (some_frame frames (after (Todo (Label at mark j l s)) way is) e)
last_front plan g pol x p _ (is_open {at} {j} {d} {is} lt es a) frames way e = absurd (some_frame frames (after (Todo (Open at j d)) way is) e)
last_front plan g pol x p _ (is_close {at} {j} {d} {is} lt es a) frames way e = absurd (some_frame frames (after (Todo (Close at j d)) way is) e)
last_front plan g pol x p _ (is_call {at} {j} {callee} {is} es a) frames OnWay e = absurd (pushed_frame ((Todo (Call at j callee) ∷ is) ∷ frames) (frame_of plan callee.number) e)
last_front plan g pol x p _ (is_call es a) frames _ e = absurd (none-some [] e)
last_front plan g pol x p _ (is_end {f} {is} es ep) [] OnWay e = (f, es, refl, refl)
last_front plan g pol x p _ (is_end es ep) ([] ∷ frames) OnWay e = absurd (none-some [] e)
last_front plan g pol x p _ (is_end es ep) ((i ∷ is) ∷ frames) OnWay e = let w = same_Some (settle is ∷ frames) [] e in cc
last_front plan g pol x p _ (is_end es ep) frames _ e = absurd (none-some [] e)

asked_in : Option Spot → Bool
asked_in (Some (AskedSpot j i a)) = true
asked_in _ = false

called_unasked : (spot : Option Spot) (call : Called) → call_in spot ≡ Some call → (asked_in spot ≡ false) × ((f : ℕ) → spot ≡ Some (Exit f) → ⊥)
unfolding asked_in
called_unasked (Some (CallSpot j f n)) call e = (refl, λ f h. let w = same_Some _ _ h in cc)
called_unasked (Some (SplitCall j f n)) call e = (refl, λ f h. let w = same_Some _ _ h in cc)
called_unasked _ call e = absurd (none-some call e)

called_good : (g : Game) (q : ℕ) (spot : Option Spot) (call : Called) → call_in spot ≡ Some call → bad_in g q spot ≡ false
called_good g q (Some (CallSpot j f n)) call e = refl
called_good g q (Some (SplitCall j f n)) call e = refl
called_good g q _ call e = absurd (none-some call e)

no_exit : (g : Game) (p q f : ℕ) (by : Move) → leads_in g p q [] (Some (Exit f)) by ≡ None
no_exit g p q f by = refl

given : (yes : Bool) (pair : ℕ × ℕ) → is_some (cond yes (Some pair) None) ≡ yes
given true pair = refl
given false pair = refl

module _ (Means : Meaning) (g : Game) (plan : Plan) (right : AreStates g.policy g.spots g.states Means) (laid : IsLaidOut plan g) (has : HasRoutines plan g) where
  abbrev problem : Problem
  problem = record { plan = plan; policy = g.policy }

  here : (b : Board) (c : Config) → StandsBy Means g b c → is_refused b.phase ≡ false → Stands Means g b c
  here b c h e = subst (λ y. StandsOn Means g b.stack b.kept b.caps b.word y c.pos c.state c.rets) (steady b.phase e) h

  there : (b : Board) (c : Config) → Stands Means g b c → StandsBy Means g b c
  there b c h = subst (λ y. StandsOn Means g b.stack b.kept b.caps b.word y c.pos c.state c.rets) (sym (steady b.phase (unrefused Means g plan right laid has b c h))) h

  -- the same board where it was asked
  abbrev as_asked : Board → Board
  as_asked b = record b { phase = standing b.phase }

  bad_at : (b : Board) (c : Config) → StandsBy Means g b c → Violates problem b → is_bad_at g c ≡ true
  bad_at b c h v = violates_bad Means g plan right laid has (as_asked b) c h (ap standing v.0, v.1, v.2)

  violates_at : (b : Board) (c : Config) → StandsBy Means g b c → is_bad_at g c ≡ true → Violates problem b
  violates_at b c h bad = let v = bad_violates Means g plan right laid has (as_asked b) c h bad in (free_phase b.phase v.0, v.1, v.2)

  -- all is over only after the end of `main`
  over_on : (stack : List Frame) (kept : List (Option Caps)) (caps : Caps) (word : Word) (phase : Phase) (p q : ℕ) (rets : List Ret) (by : Move) (next : Board)
      → let b : Board = record { stack = stack; kept = kept; caps = caps; word = word; phase = phase } in StandsOn Means g stack kept caps word phase p q rets
      → moved problem b phase by ≡ Some next → next.phase ≡ Over → (f : ℕ) × (slice_get g.spots p ≡ Some (Exit f)) × (rets ≡ []) × (by ≡ On)
  over_on [] kept caps word phase p q rets by next h e o = absurd h
  over_on (frame ∷ frames) kept caps word (Visit i a later) p q rets Skip next h e o = absurd (onward_not_over (suc i) later (ap (λ b. b.phase) (same_Some _ next e) ∙ o))
  over_on (frame ∷ frames) kept caps word (Visit i a later) p q rets Try next h e o = let w : Asked i a later ≡ Over = ap (λ b. b.phase) (same_Some _ next e) ∙ o in cc
  over_on (frame ∷ frames) kept caps word (Visit i a later) p q rets _ next h e o = absurd (none-some next e)
  over_on (frame ∷ frames) kept caps word (Asked i a later) p q rets Grant next h e o =
      let b : Board = record { stack = frame ∷ frames; kept = kept; caps = caps; word = word; phase = Asked i a later } in
      absurd (granted_not_over b i a later (ap (λ b. b.phase) (cond_some (may_grant caps a) (granted b i a later) next e).1 ∙ o))
  over_on (frame ∷ frames) kept caps word (Asked i a later) p q rets Refuse next h e o =
      let b : Board = record { stack = frame ∷ frames; kept = kept; caps = caps; word = word; phase = Asked i a later } in
      absurd (refused_not_over (can_stop g.policy caps a) i a later (ap (λ b. b.phase) (cond_some (may_refuse g.policy caps a) (refused problem b i a later) next e).1 ∙ o))
  over_on (frame ∷ frames) kept caps word (Asked i a later) p q rets _ next h e o = absurd (none-some next e)
  over_on (frame ∷ frames) kept caps word Free p q rets by next h e o =
      let b : Board = record { stack = frame ∷ frames; kept = kept; caps = caps; word = word; phase = Free } in
      let w = step_of problem None b next by (way_of by) refl e in
      let z = begin_over g.policy w.2.0 (ap (λ b. b.phase) w.2.2 ∙ o) in
      let s = h.1 in
      let l = last_front plan g.spots g.policy (g.exit h.0) p frame (front_of g.spots g.policy (g.exit h.0) frame p s.0 s.2) frames w.0 (w.2.1 ∙ ap Some z) in
      (l.0, l.1, no_rets h.0 frames kept rets l.2 h.2, sym w.1 ∙ ap move_of l.3)
    where
      no_rets : (fn : ℕ) (frames : List Frame) (kept : List (Option Caps)) (rets : List Ret) → frames ≡ [] → Under Means g fn frames kept rets → rets ≡ []
      no_rets fn [] kept [] e u = refl
      no_rets fn [] kept (r ∷ rets) e u = absurd u
      no_rets fn (frame ∷ frames) kept rets e u = cc
  over_on ((Todo (Call at j callee) ∷ is) ∷ frames) kept caps word FreeSplit p q rets by next h e o =
      let b : Board = record { stack = (Todo (Call at j callee) ∷ is) ∷ frames; kept = kept; caps = caps; word = word; phase = FreeSplit } in
      let w = step_of problem (Some caps) b next by (way_of by) refl e in
      absurd (not_last w.0 (w.2.1 ∙ ap Some (begin_over g.policy w.2.0 (ap (λ b. b.phase) w.2.2 ∙ o))))
    where
      not_last : (way : Way) → pass plan ((Todo (Call at j callee) ∷ is) ∷ frames) way ≡ Some [] → ⊥
      not_last OnWay e = pushed_frame ((Todo (Call at j callee) ∷ is) ∷ frames) (frame_of plan callee.number) e
      not_last _ e = none-some [] e
  over_on (_ ∷ frames) kept caps word FreeSplit p q rets by next h e o = absurd h.1.2
  over_on (frame ∷ frames) kept caps word (Refused i a later) p q rets by next h e o = absurd h.1
  over_on (frame ∷ frames) kept caps word Over p q rets by next h e o = absurd h.1

  over_end : (b : Board) (c : Config) (by : Move) (next : Board) → Stands Means g b c → moved problem b b.phase by ≡ Some next → next.phase ≡ Over
      → (f : ℕ) × (spot_at g c ≡ Some (Exit f)) × (c.rets ≡ []) × (by ≡ On)
  over_end b c by next h e o = over_on b.stack b.kept b.caps b.word b.phase c.pos c.state c.rets by next h e o

  -- what the tie says of a move of the board
  tied_to : (o : Option Config) (next : Board) → IsTied Means g (Some next) o → (next.phase ≡ Over → ⊥) → (d : Config) × (o ≡ Some d) × Stands Means g next d
  tied_to None next t never = absurd (never t)
  tied_to (Some d) next t never = (d, refl, t)

  ties : (b : Board) (c : Config) (by : Move) (next : Board) → Stands Means g b c → is_bad_at g c ≡ false → stop_answers g.policy b.caps b.phase by ≡ false
      → moved problem b b.phase by ≡ Some next → IsTied Means g (Some next) (leads_to g c by)
  ties b c by next h good never e = subst (λ o. IsTied Means g o (leads_to g c by)) e (tied Means g plan right laid has b c by h good never)

  -- where nothing is asked no refusal is answered
  unasked_on : (stack : List Frame) (kept : List (Option Caps)) (caps : Caps) (word : Word) (phase : Phase) (p q : ℕ) (rets : List Ret) (by : Move)
      → StandsOn Means g stack kept caps word phase p q rets → asked_in (slice_get g.spots p) ≡ false → stop_answers g.policy caps phase by ≡ false
  unfolding asked_in
  unasked_on [] kept caps word phase p q rets by h e = absurd h
  unasked_on (frame ∷ frames) kept caps word (Asked i a later) p q rets by h e =
      let es = ap (slice_get g.spots) h.1.2 ∙ h.1.1.4.1 in
      absurd (not_both (asked_in (slice_get g.spots p)) (ap asked_in es) e)
  unasked_on (frame ∷ frames) kept caps word _ p q rets by h e = refl

  call_to : (c : Config) (call : Called) (spot : Option Spot) (by : Move) (next : Board) → call_in spot ≡ Some call → IsTied Means g (Some next) (leads_in g c.pos c.state c.rets spot by)
      → (next.phase ≡ Over → ⊥) → (by ≡ On) × Stands Means g next (at_pair (g.entry call.function) c.state (record { back = call.back; kept = kept_at call.split c.state } ∷ c.rets))
  call_to c call (Some (CallSpot j f n)) On next e t never =
      (refl, subst (λ (k : Called). Stands Means g next (at_pair (g.entry k.function) c.state (record { back = k.back; kept = kept_at k.split c.state } ∷ c.rets))) (same_Some _ call e) t)
  call_to c call (Some (SplitCall j f n)) On next e t never =
      (refl, subst (λ (k : Called). Stands Means g next (at_pair (g.entry k.function) c.state (record { back = k.back; kept = kept_at k.split c.state } ∷ c.rets))) (same_Some _ call e) t)
  call_to c call (Some (CallSpot j f n)) _ next e t never = absurd (never t)
  call_to c call (Some (SplitCall j f n)) _ next e t never = absurd (never t)
  call_to c call _ by next e t never = absurd (none-some call e)

  end_to : (p q f : ℕ) (ret : Ret) (rets : List Ret) (by : Move) (next : Board) → IsTied Means g (Some next) (leads_in g p q (ret ∷ rets) (Some (Exit f)) by) → (next.phase ≡ Over → ⊥)
      → (by ≡ On) × Stands Means g next (at_pair ret.back (returned g.states ret.kept q) rets)
  end_to p q f ret rets On next t never = (refl, t)
  end_to p q f ret rets _ next t never = absurd (never t)

  resumes_on : (stack : List Frame) (kept : List (Option Caps)) (caps : Caps) (word : Word) (i : ℕ) (a : Primitive) (later : List Primitive) (p q : ℕ) (rets : List Ret)
      → StandsOn Means g stack kept caps word (Asked i a later) p q rets → is_some (resumed g p q) ≡ can_stop g.policy caps a
  resumes_on [] kept caps word i a later p q rets h = absurd h
  resumes_on (frame ∷ frames) kept caps word i a later p q rets h =
      let w = h.1 in
      let s = w.1 in
      ap (λ o. is_some (resumed_in g p q o)) (ap (slice_get g.spots) w.2 ∙ s.4.1) ∙ given (can_stop_in g q a) (p + 1, q) ∙ stops_is Means g right (g.exit h.0) frame caps word i a later w.0 q s w.3

  goes_on : (stack : List Frame) (kept : List (Option Caps)) (caps : Caps) (word : Word) (phase : Phase) (p q : ℕ) (rets : List Ret) (pair : ℕ × ℕ) (next : Board)
      → let b : Board = record { stack = stack; kept = kept; caps = caps; word = word; phase = phase } in StandsBy Means g b (at_pair p q rets) → is_refused phase ≡ true
      → resumed g p q ≡ Some pair → moved problem b phase Skip ≡ Some next → Stands Means g next (at_pair pair.0 pair.1 rets)
  goes_on [] kept caps word phase p q rets pair next h y e m = absurd h
  goes_on (frame ∷ frames) kept caps word (Refused i a later) p q rets pair next h y e m =
      let w = h.1 in
      let s = w.1 in
      let es = ap (slice_get g.spots) w.2 ∙ s.4.1 in
      let k = (cond_some (can_stop_in g q a) (p + 1, q) pair (sym (ap (resumed_in g p q) es) ∙ e)).1 in
      subst (λ z. Stands Means g z (at_pair pair.0 pair.1 rets)) (same_Some _ next m)
      (subst (λ (z : ℕ × ℕ). Stands Means g (passed_by (record { stack = frame ∷ frames; kept = kept; caps = caps; word = word; phase = Refused i a later }) i later) (at_pair z.0 z.1 rets)) k
      (h.0, refused_at Means g.spots g.policy (g.exit h.0) frame caps word i a later w.0 p q s w.2 w.3, h.2))
  goes_on (frame ∷ frames) kept caps word _ p q rets pair next h y e m = cc

  -- a refusal that a stop can answer leads to Refused, and is no move of the pair
  never_and : (y z : Bool) → z ≡ true → (y && not z) ≡ false
  never_and true true e = refl
  never_and false true e = refl
  never_and y false e = cc

  waits_in : (stack : List Frame) (kept : List (Option Caps)) (caps : Caps) (word : Word) (i : ℕ) (a : Primitive) (later : List Primitive) (p q : ℕ) (rets : List Ret) (stops : Bool) (next : Board)
      → stops ≡ true → StandsOn Means g stack kept caps word (Asked i a later) p q rets
      → record { stack = stack; kept = kept; caps = caps; word = word; phase = cond stops (Refused i a later) (onward (suc i) later) } ≡ next
      → StandsBy Means g next (at_pair p q rets) × (is_refused next.phase ≡ true)
  waits_in stack kept caps word i a later p q rets true next t h e = subst (λ (z : Board). StandsBy Means g z (at_pair p q rets) × (is_refused z.phase ≡ true)) e (h, refl)
  waits_in stack kept caps word i a later p q rets false next t h e = cc

  stops_on : (stack : List Frame) (kept : List (Option Caps)) (caps : Caps) (word : Word) (phase : Phase) (p q : ℕ) (rets : List Ret) (by : Move)
      → let b : Board = record { stack = stack; kept = kept; caps = caps; word = word; phase = phase } in StandsBy Means g b (at_pair p q rets) → stop_answers g.policy caps phase by ≡ true
      → (leads_in g p q rets (slice_get g.spots p) by ≡ None) × ((next : Board) → moved problem b phase by ≡ Some next → StandsBy Means g next (at_pair p q rets) × (is_refused next.phase ≡ true))
  stops_on [] kept caps word phase p q rets by h e = absurd h
  stops_on (frame ∷ frames) kept caps word (Asked i a later) p q rets Refuse h e =
      let w = h.1 in
      let s = w.1 in
      let es = ap (slice_get g.spots) w.2 ∙ s.4.1 in
      let answers : can_stop_in g q a ≡ true = stops_is Means g right (g.exit h.0) frame caps word i a later w.0 q s w.3 ∙ e in
      let b : Board = record { stack = frame ∷ frames; kept = kept; caps = caps; word = word; phase = Asked i a later } in (
        ap (λ o. leads_in g p q rets o Refuse) es ∙ ap (λ y. cond y (Some (at_pair (p + 1) q rets)) None) (never_and (may_refuse_in g q a) (can_stop_in g q a) answers),
        λ next m. waits_in (frame ∷ frames) kept caps word i a later p q rets (can_stop g.policy caps a) next e h
            (cond_some (may_refuse g.policy caps a) (refused problem b i a later) next m).1,
      )
  stops_on (frame ∷ frames) kept caps word _ p q rets _ h e = cc

  -- at the last end the program's last step is there
  no_end : (p f : ℕ) (s : Spot) → slice_get g.spots p ≡ Some s → slice_get g.spots p ≡ Some (Exit f) → is_exit_in (Some s) ≡ false → ⊥
  no_end p f s e x n = not_both (is_exit_in (Some s)) (ap is_exit_in (sym e ∙ x)) n

  last_free : (fn p f : ℕ) (frame : Frame) → Front g.spots g.policy (g.exit fn) p frame → slice_get g.spots p ≡ Some (Exit f)
      → (frames : List Frame) (kept : List (Option Caps)) (caps : Caps) (word : Word) (rets : List Ret) → Under Means g fn frames kept rets → rets ≡ []
      → let b : Board = record { stack = frame ∷ frames; kept = kept; caps = caps; word = word; phase = Free } in (next : Board) × (moved problem b Free On ≡ Some next) × (next.phase ≡ Over)
  last_free fn p f _ (is_step raw {n} quiet ways es a) x frames kept caps word rets u r = absurd (no_end p f (StepSpot n) es x refl)
  last_free fn p f _ (is_branch left right' {m} {n} quiet ways es a a') x frames kept caps word rets u r = absurd (no_end p f (BranchSpot m n) es x refl)
  last_free fn p f _ (is_label {at} {mark} {j} {l} {s} {is} {n} es a) x frames kept caps word rets u r = absurd (no_end p f (LabelSpot j l n) es x refl)
  last_free fn p f _ (is_open {at} {j} {d} {is} {n} lt es a) x frames kept caps word rets u r = absurd (no_end p f (OpenSpot j d n) es x refl)
  last_free fn p f _ (is_close {at} {j} {d} {is} {n} lt es a) x frames kept caps word rets u r = absurd (no_end p f (CloseSpot j d n) es x refl)
  last_free fn p f _ (is_call {at} {j} {callee} {is} {n} es a) x frames kept caps word rets u r = absurd (no_end p f (CallSpot j callee.number n) es.0 x refl)
  last_free fn p f _ (is_end es ep) x [] kept caps word rets u r = (_, refl, refl)
  last_free fn p f _ (is_end es ep) x (frame ∷ frames) [] caps word rets u r = absurd u
  last_free fn p f _ (is_end es ep) x (frame ∷ frames) (k ∷ kept) caps word [] u r = absurd u
  last_free fn p f _ (is_end es ep) x (frame ∷ frames) (k ∷ kept) caps word (ret ∷ rets) u r = cc

  last_on : (stack : List Frame) (kept : List (Option Caps)) (caps : Caps) (word : Word) (phase : Phase) (p q : ℕ) (rets : List Ret) (f : ℕ)
      → StandsOn Means g stack kept caps word phase p q rets → slice_get g.spots p ≡ Some (Exit f) → rets ≡ []
      → let b : Board = record { stack = stack; kept = kept; caps = caps; word = word; phase = phase } in (next : Board) × (moved problem b phase On ≡ Some next) × (next.phase ≡ Over)
  last_on [] kept caps word phase p q rets f h x r = absurd h
  last_on (frame ∷ frames) kept caps word (Visit i a later) p q rets f h x r = absurd (no_end p f (VisitSpot h.1.0.1 i a) h.1.0.4.0 x refl)
  last_on (frame ∷ frames) kept caps word (Asked i a later) p q rets f h x r =
      absurd (no_end p f (AskedSpot h.1.1.1 i a) (ap (slice_get g.spots) h.1.2 ∙ h.1.1.4.1) x refl)
  last_on (frame ∷ frames) kept caps word Free p q rets f h x r =
      let s = h.1 in
      last_free h.0 p f frame (front_of g.spots g.policy (g.exit h.0) frame p s.0 s.2) x frames kept caps word rets h.2 r
  last_on ((Todo (Call at j callee) ∷ is) ∷ frames) kept caps word FreeSplit p q rets f h x r =
      absurd (no_end p f (SplitCall j callee.number h.1.1.2.0) (ap (slice_get g.spots) h.1.3 ∙ h.1.1.2.1.1 h.1.2) x refl)
  last_on (_ ∷ frames) kept caps word FreeSplit p q rets f h x r = absurd h.1.2
  last_on (frame ∷ frames) kept caps word (Refused i a later) p q rets f h x r = absurd h.1
  last_on (frame ∷ frames) kept caps word Over p q rets f h x r = absurd h.1

-- The link.
module _ (Means : Meaning) (g : Game) (plan : Plan) (right : AreStates g.policy g.spots g.states Means) (laid : IsLaidOut plan g) (has : HasRoutines plan g) where
  abbrev the_problem : Problem
  the_problem = record { plan = plan; policy = g.policy }

  over_not : (b : Board) (c : Config) (by : Move) (next : Board) → Stands Means g b c → Moves the_problem b by next → (IsLastEnd g c → ⊥) → next.phase ≡ Over → ⊥
  over_not b c by next h m never o = let w = over_end Means g plan right laid has b c by next h m.1 o in never (w.0, w.1, w.2)

  unasked : (b : Board) (c : Config) (by : Move) → Stands Means g b c → asked_in (spot_at g c) ≡ false → stop_answers g.policy b.caps b.phase by ≡ false
  unasked b c by h e = unasked_on Means g plan right laid has b.stack b.kept b.caps b.word b.phase c.pos c.state c.rets by h e

  tie : (b : Board) (c : Config) (by : Move) → StandsBy Means g b c → is_refused b.phase ≡ false → is_bad_at g c ≡ false → (IsLastEnd g c → ⊥) → stop_answers g.policy b.caps b.phase by ≡ false
      → TiedBy Means the_problem g b c by
  tie b c by h steady_now good last never =
      let k = here Means g plan right laid has b c h steady_now in
      record {
        to_pair = λ next m.
            let t = tied_to Means g plan right laid has (leads_to g c by) next (ties Means g plan right laid has b c by next k good never m.1) (over_not b c by next k m last) in
            (t.0, t.1, there Means g plan right laid has next t.0 t.2, unrefused Means g plan right laid has next t.0 t.2);
        to_board = λ d e.
            let t = board_moves Means g plan right laid has b c d by k good e in
            (t.0, t.1, there Means g plan right laid has t.0 d t.2, unrefused Means g plan right laid has t.0 d t.2);
      }

  exit_unasked : (c : Config) (f : ℕ) → spot_at g c ≡ Some (Exit f) → (asked_in (spot_at g c) ≡ false) × (is_bad_at g c ≡ false)
  unfolding asked_in
  exit_unasked c f e = (ap asked_in e, ap (bad_in g c.state) e)

  no_waiting : (r : Ret) (rets : List Ret) → r ∷ rets ≡ [] → ⊥
  no_waiting r rets e = cc

  calls_at : (b : Board) (c : Config) (call : Called) (by : Move) (next : Board) → StandsBy Means g b c → is_refused b.phase ≡ false → call_in (spot_at g c) ≡ Some call
      → Moves the_problem b by next → (by ≡ On) × StandsBy Means g next (at_pair (g.entry call.function) c.state (record { back = call.back; kept = kept_at call.split c.state } ∷ c.rets))
  calls_at b c call by next h e y m =
      let k = here Means g plan right laid has b c h e in
      let u = called_unasked (spot_at g c) call y in
      let t = ties Means g plan right laid has b c by next k (called_good g c.state (spot_at g c) call y) (unasked b c by k u.0) m.1 in
      let z = call_to Means g plan right laid has c call (spot_at g c) by next y t (over_not b c by next k m (λ l. u.1 l.0 l.1)) in
      (z.0, there Means g plan right laid has next _ z.1)

  returns_at : (b : Board) (pos state f : ℕ) (ret : Ret) (rets : List Ret) (by : Move) (next : Board) → StandsBy Means g b (at_pair pos state (ret ∷ rets)) → is_refused b.phase ≡ false
      → slice_get g.spots pos ≡ Some (Exit f) → Moves the_problem b by next → (by ≡ On) × StandsBy Means g next (at_pair ret.back (returned g.states ret.kept state) rets)
  returns_at b pos state f ret rets by next h e es m =
      let c = at_pair pos state (ret ∷ rets) in
      let k = here Means g plan right laid has b c h e in
      let u = exit_unasked c f es in
      let t = ties Means g plan right laid has b c by next k u.1 (unasked b c by k u.0) m.1 in
      let z =
      end_to Means g plan right laid has pos state f ret rets by next (subst (λ o. IsTied Means g (Some next) (leads_in g pos state (ret ∷ rets) o by)) es t)
      (over_not b c by next k m (λ l. no_waiting ret rets l.2)) in
      (z.0, there Means g plan right laid has next _ z.1)

  over_there : (o : Option Config) (next : Board) → o ≡ None → IsTied Means g (Some next) o → next.phase ≡ Over
  over_there None next e t = t
  over_there (Some d) next e t = cc

  ends_at : (b : Board) (c : Config) (by : Move) (next : Board) → StandsBy Means g b c → is_refused b.phase ≡ false → IsLastEnd g c → Moves the_problem b by next → (by ≡ On) × (next.phase ≡ Over)
  ends_at b c by next h e l m =
      let k = here Means g plan right laid has b c h e in
      let u = exit_unasked c l.0 l.1 in
      let t = ties Means g plan right laid has b c by next k u.1 (unasked b c by k u.0) m.1 in
      let none : leads_to g c by ≡ None = ap (λ o. leads_in g c.pos c.state c.rets o by) l.1 ∙ ap (λ r. leads_in g c.pos c.state r (Some (Exit l.0)) by) l.2 ∙ no_exit g c.pos c.state l.0 by in
      let o = over_there (leads_to g c by) next none t in
      ((over_end Means g plan right laid has b c by next k m.1 o).3, o)

  ends_now : (b : Board) (c : Config) → StandsBy Means g b c → is_refused b.phase ≡ false → IsLastEnd g c → (next : Board) × Moves the_problem b On next × (next.phase ≡ Over)
  ends_now b c h e l =
      let k = here Means g plan right laid has b c h e in
      let u = exit_unasked c l.0 l.1 in
      let w = last_on Means g plan right laid has b.stack b.kept b.caps b.word b.phase c.pos c.state c.rets l.0 k l.1 l.2 in
      (w.0, ((λ v. not_both (is_bad_at g c) (bad_at Means g plan right laid has b c h v) u.1), w.1), w.2)

  linked_at : AreLinkedBy Means the_problem g
  linked_at = record {
    starts = there Means g plan right laid has (start_board the_problem) _ (starts_at Means g plan right laid has);
    violates = λ b c h v. bad_at Means g plan right laid has b c h v;
    is_bad = λ b c h bad. violates_at Means g plan right laid has b c h bad;
    moves = tie;
    stops_at =
        λ b c by h e.
        let s = stops_on Means g plan right laid has b.stack b.kept b.caps b.word b.phase c.pos c.state c.rets by h e in
        (s.0, λ next m. s.1 next m.1);
    calls = calls_at;
    returns = returns_at;
    ends = ends_at;
    ends_on = ends_now;
    resumes =
        λ b c i a later h e. resumes_on Means g plan right laid has b.stack b.kept b.caps b.word i a later c.pos c.state c.rets
        (subst (λ y. StandsOn Means g b.stack b.kept b.caps b.word y c.pos c.state c.rets) e h);
    goes_on = λ b c pair next h e y m. there Means g plan right laid has next _ (goes_on Means g plan right laid has b.stack b.kept b.caps b.word b.phase c.pos c.state c.rets pair next h e y m.1);
  }

-- The link by any meaning by which the states are the policy's.
pub linked_by : (Means : Meaning) (p : Problem) (g : Game) → IsGameBy Means p g → AreLinkedBy Means p g
linked_by Means p g of = subst (λ (y : Problem). AreLinkedBy Means y g) (ap (λ policy. record { plan = p.plan; policy = policy }) of.policy) (linked_at Means g p.plan of.states of.laid of.routines)

-- and by the least one
pub linked : (p : Problem) (g : Game) → IsGameOf p g → AreLinked p g
linked p g of = linked_by (Reached g.policy g.spots g.states) p g (record { policy = of.policy; states = of.states; laid = of.laid; routines = of.routines })
