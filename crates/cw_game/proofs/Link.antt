-- Each move of a board and of the configuration where it stands are the same move: so what is forced of the configuration is forced of the board.
use Rattle.std.proofs.Common.{◌≡◌, ◌≢◌, ◌⊎◌, ℕ, zero, suc, ◌+◌, ◌<◌, List, [], ◌∷◌, ◌++◌, Bool, true, false, cond, not, ◌&&◌, Option, Some, None, option_map, refl, sym, ap, ap₂, ◌∙◌}
use Rattle.std.proofs.Common.{subst, inl, inr, ⊎_elim}
use Rattle.std.specs.Prelude.{slice_get}
use Rattle.std.proofs.lemmas.Option.{none-some, same_Some}
use Rattle.cw_rights.specs.declared.capabilities.Caps.{Caps}
use Rattle.cw_rights.specs.declared.capabilities.Primitive.{Primitive}
use Rattle.cw_rights.specs.declared.capabilities.Primitive.TheVariants.{Split}
use Rattle.cw_rights.specs.Capabilities.{closed}
use Rattle.cw_rights.specs.Words.{Word}
use Rattle.cw_rights.specs.Policies.{IsBad, start_caps}
use Rattle.cw_certs.specs.declared.moves.Move.{Move}
use Rattle.cw_certs.specs.declared.moves.Move.TheVariants.{Skip, Try, Grant, Refuse, On, Left, Right, Opened, Failed}
use Rattle.cw_syntax.specs.Plans.{Callee, Open, Close, Call, Label, Routine, Plan}
use Rattle.cw_syntax.specs.Frames.{Item, Todo, End, Frame, new_frame, settle, Way, after, pass, popped, stack_of, frame_of}
use Rattle.cw_syntax.specs.Frames.{On as OnWay, Left as LeftWay, Right as RightWay, Opened as OpenedWay, Failed as FailedWay}
use Rattle.cw_model.specs.Boards.{Problem, Phase, Visit, Asked, Refused, Free, FreeSplit, Over, Board, primitives_in, onward, begin, letters_in, start_board, Violates, may_grant, mode_of}
use Rattle.cw_model.specs.Boards.{may_refuse, can_stop, with_opened, given_back, caps_after, landed, granted, passed_by, stop_answers, is_refused, moved, Moves, Weaver}
use Rattle.cw_model.specs.Boards.{Environment, Party, turn_of, Forced}
use Rattle.cw_model.proofs.Moving.{board_on}
use Rattle.cw_game.specs.declared.spots.Spot.{Spot}
use Rattle.cw_game.specs.declared.spots.Spot.TheVariants.{Step, Branch, Exit, Visit as VisitSpot, Asked as AskedSpot, Label as LabelSpot, Open as OpenSpot, Close as CloseSpot}
use Rattle.cw_game.specs.declared.spots.Spot.TheVariants.{Call as CallSpot, SplitCall}
use Rattle.cw_game.specs.Games.{AreStates, letter_of, Game, may_refuse_in, can_stop_in, refuses_in, returned, Ret, Config, at_pair, past_asked, leads_in, bad_in, weavers_in, leads_to, ForcedAt}
use Rattle.cw_game.specs.Places.{At, IsLaidOut, HasRoutines}
use Rattle.cw_game.specs.Pairs.{call_spot, kept_at}
use Rattle.cw_game.specs.Standing.{Meaning, Stage, Resumes, Under, StandsIn, StandsOn}
use Rattle.cw_game.proofs.Fronts.{next_stage, IsQuiet, Front, is_step, is_branch, is_label, is_open, is_close, is_call, is_end, front_of}
use Rattle.cw_game.proofs.Stands.{mode_kept, no_letter, stage_at, lands_at, refused_at, grants_is, refuses_is, stops_is, granted_at, given_is, enters_at}
use Rattle.cw_lemmas.proofs.Truths.{not_both}

-- the board stands at the configuration, and isn't in Refused
abbrev pub Stands : Meaning → Game → Board → Config → Type 0
Stands Means g b c = StandsOn Means g b.stack b.kept b.caps b.word b.phase c.pos c.state c.rets

-- A move of a board and of its configuration: both are there and the next board stands at the next configuration, or neither is. Where `main` ends the configuration has none.
abbrev pub IsTied : Meaning → Game → Option Board → Option Config → Type 0
IsTied Means g None None = Unit {0}
IsTied Means g (Some b) None = b.phase ≡ Over
IsTied Means g None (Some c) = ⊥
IsTied Means g (Some b) (Some c) = Stands Means g b c

-- whose turn it is, by whether it is the weaver's
abbrev pub party_of : Bool → Party
party_of true = Weaver
party_of false = Environment

-- where the weaver moves nothing is bad
pub weavers_good : (g : Game) (q : ℕ) (spot : Option Spot) → weavers_in spot ≡ true → bad_in g q spot ≡ false
weavers_good g q (Some (LabelSpot j l n)) e = cc
weavers_good g q _ e = refl

-- an exit leads somewhere by On alone
pub exit_only : (g : Game) (p q f : ℕ) (rets : List Ret) (by : Move) → (by ≡ On → ⊥) → leads_in g p q rets (Some (Exit f)) by ≡ None
exit_only g p q f [] by ne = refl
exit_only g p q f (r ∷ rets) On ne = absurd (ne refl)
exit_only g p q f (r ∷ rets) _ ne = refl

module _ (Means : Meaning) (g : Game) (plan : Plan) (right : AreStates g.policy g.spots g.states Means) (laid : IsLaidOut plan g) (has : HasRoutines plan g) where
  abbrev pub problem : Problem
  problem = record { plan = plan; policy = g.policy }

  -- a step within the top frame
  lands : (fn : ℕ) (raw : Frame) (frames : List Frame) (kept : List (Option Caps)) (caps : Caps) (word : Word) (p q : ℕ) (rets : List Ret) → At g.spots g.policy (g.exit fn) raw p
      → Means q word caps → Under Means g fn frames kept rets → StandsOn Means g (settle raw ∷ frames) kept caps word (onward 0 (primitives_in g.policy (settle raw))) p q rets
  lands fn raw frames kept caps word p q rets a h u = (fn, lands_at Means g.spots g.policy (g.exit fn) raw caps word p q a h, u)

  -- what this way of a free board leads to
  abbrev Passed : List Frame → List (Option Caps) → Caps → Word → Way → Option (List Frame) → Option Config → Type 0
  Passed stack kept caps word way next c = IsTied Means g (option_map (landed problem None (board_on stack kept caps word Free) way) next) c

  quiet_on : (fn : ℕ) (i : Item) (is raw : Frame) (frames : List Frame) (kept : List (Option Caps)) (caps : Caps) (word : Word) (p q : ℕ) (rets : List Ret) (way : Way) → IsQuiet i is
      → after i way is ≡ Some raw → At g.spots g.policy (g.exit fn) raw p → Means q word caps → Under Means g fn frames kept rets
      → Passed ((i ∷ is) ∷ frames) kept caps word way (pass plan ((i ∷ is) ∷ frames) way) (Some (at_pair p q rets))
  quiet_on fn i is raw frames kept caps word p q rets way quiet ea a h u =
      let stack = (i ∷ is) ∷ frames in
      let next = settle raw ∷ frames in
      let word2 = word ++ letters_in (i ∷ is) caps in
      let en : pass plan stack way ≡ Some next = quiet.passes plan frames way ∙ ap (option_map (λ n. settle n ∷ frames)) ea in
      let new = lands fn raw frames kept caps word2 p q rets a (no_letter Means q word (letters_in (i ∷ is) caps) caps (quiet.says caps) h) u in
      let new2 = subst (λ c. StandsOn Means g next kept c word2 (begin g.policy next) p q rets) (sym (quiet.holds g.policy frames kept way caps)) new in
      let new3 = subst (λ k. StandsOn Means g next k (caps_after g.policy stack kept way caps) word2 (begin g.policy next) p q rets) (sym (quiet.keeps None frames kept)) new2 in
      subst (λ o. Passed stack kept caps word way o (Some (at_pair p q rets))) (sym en) new3

  no_way : (i : Item) (is : Frame) (frames : List Frame) (kept : List (Option Caps)) (caps : Caps) (word : Word) (way : Way) → IsQuiet i is → after i way is ≡ None
      → Passed ((i ∷ is) ∷ frames) kept caps word way (pass plan ((i ∷ is) ∷ frames) way) None
  no_way i is frames kept caps word way quiet ea =
      let en : pass plan ((i ∷ is) ∷ frames) way ≡ None = quiet.passes plan frames way ∙ ap (option_map (λ n. settle n ∷ frames)) ea in
      subst (λ o. Passed ((i ∷ is) ∷ frames) kept caps word way o None) (sym en) tt

  -- a return
  returns : (fn fn2 f : ℕ) (is frame : Frame) (frames : List Frame) (k : Option Caps) (kept : List (Option Caps)) (caps : Caps) (word : Word) (q : ℕ) (r : Ret) (rets : List Ret)
      → Resumes Means g fn fn2 frame k r → Under Means g fn2 frames kept rets → Means q word caps
      → Passed ((End f ∷ is) ∷ (frame ∷ frames)) (k ∷ kept) caps word OnWay (popped (frame ∷ frames)) (Some (at_pair r.back (returned g.states r.kept q) rets))
  returns fn fn2 f is frame frames k kept caps word q r rets w u h =
      let after = returned g.states r.kept q in
      let back = given_back (k ∷ kept) caps in
      let means = no_letter Means after word [] back refl (given_is Means g right k kept r.kept q word caps w.keeps_it h) in
      subst (λ fr. Passed ((End f ∷ is) ∷ (fr ∷ frames)) (k ∷ kept) caps word OnWay (popped (fr ∷ frames)) (Some (at_pair r.back after rets))) (sym w.is_call)
      (lands fn2 w.rest frames kept back (word ++ []) r.back after rets w.after_it means u)

  tied_end : (fn f : ℕ) (is : Frame) (frames : List Frame) (kept : List (Option Caps)) (caps : Caps) (word : Word) (p q : ℕ) (rets : List Ret) (by : Move) → Under Means g fn frames kept rets
      → Means q word caps → IsTied Means g (moved problem (board_on ((End f ∷ is) ∷ frames) kept caps word Free) Free by) (leads_in g p q rets (Some (Exit f)) by)
  tied_end fn f is [] kept caps word p q [] On u h = refl
  tied_end fn f is (frame ∷ frames) (k ∷ kept) caps word p q (r ∷ rets) On u h = returns fn u.0 f is frame frames k kept caps word q r rets u.1 u.2 h
  tied_end fn f is _ _ caps word p q _ On u h = absurd u
  tied_end fn f is frames kept caps word p q rets by u h =
      subst (λ o. IsTied Means g (moved problem (board_on ((End f ∷ is) ∷ frames) kept caps word Free) Free by) o) (sym (exit_only g p q f rets by (λ e. cc))) tt

  -- a call in either mode
  routine_of : (split : Bool) (p j f n : ℕ) → slice_get g.spots p ≡ Some (call_spot split j f n) → (r : Routine) × (slice_get plan.routines f ≡ Some r)
  routine_of true p j f n e = has.called p j f n (inr e)
  routine_of false p j f n e = has.called p j f n (inl e)

  call_on : (split : Bool) (fn at j : ℕ) (callee : Callee) (is : Frame) (frames : List Frame) (kept : List (Option Caps)) (caps : Caps) (word : Word) (phase : Phase) (p q n : ℕ) (rets : List Ret)
      → slice_get g.spots p ≡ Some (call_spot split j callee.number n) → At g.spots g.policy (g.exit fn) is n → Means q word caps → Under Means g fn frames kept rets
      → IsTied Means g (option_map (landed problem (mode_of split caps) (board_on ((Todo (Call at j callee) ∷ is) ∷ frames) kept caps word phase) OnWay)
      (pass plan ((Todo (Call at j callee) ∷ is) ∷ frames) OnWay)) (Some (at_pair (g.entry callee.number) q (record { back = n; kept = kept_at split q } ∷ rets)))
  call_on split fn at j callee is frames kept caps word phase p q n rets es a h u =
      let f = callee.number in
      let stack = (Todo (Call at j callee) ∷ is) ∷ frames in
      let ret : Ret = record { back = n; kept = kept_at split q } in
      let r = routine_of split p j f n es in
      let w : Resumes Means g f fn (Todo (Call at j callee) ∷ is) (mode_of split caps) ret =
      record { at = at; seam = j; callee = callee; rest = is; is_call = refl; calls = refl; after_it = a; keeps_it = mode_kept Means split q word caps h } in
      let st = enters_at Means g right plan f r.0 caps (word ++ []) q (laid.functions f r.0 r.1) (no_letter Means q word [] caps refl h) in
      subst (λ o. IsTied Means g (option_map (landed problem (mode_of split caps) (board_on stack kept caps word phase) OnWay)
      (option_map (λ frame. frame ∷ stack) (option_map (new_frame f) o))) (Some (at_pair (g.entry f) q (ret ∷ rets)))) (sym r.1) (f, st, (fn, w, u))

  tied_call : (fn at j : ℕ) (callee : Callee) (is : Frame) (frames : List Frame) (kept : List (Option Caps)) (caps : Caps) (word : Word) (p q n : ℕ) (rets : List Ret) (by : Move)
      → slice_get g.spots p ≡ Some (CallSpot j callee.number n) → At g.spots g.policy (g.exit fn) is n → Means q word caps → Under Means g fn frames kept rets
      → IsTied Means g (moved problem (board_on ((Todo (Call at j callee) ∷ is) ∷ frames) kept caps word Free) Free by) (leads_in g p q rets (Some (CallSpot j callee.number n)) by)
  tied_call fn at j callee is frames kept caps word p q n rets On es a h u = call_on false fn at j callee is frames kept caps word Free p q n rets es a h u
  tied_call fn at j callee is frames kept caps word p q n rets _ es a h u = tt

  tied_split : (fn at j : ℕ) (callee : Callee) (is : Frame) (frames : List Frame) (kept : List (Option Caps)) (caps : Caps) (word : Word) (p q n : ℕ) (rets : List Ret) (by : Move)
      → slice_get g.spots p ≡ Some (SplitCall j callee.number n) → At g.spots g.policy (g.exit fn) is n → Means q word caps → Under Means g fn frames kept rets
      → IsTied Means g (moved problem (board_on ((Todo (Call at j callee) ∷ is) ∷ frames) kept caps word FreeSplit) FreeSplit by) (leads_in g p q rets (Some (SplitCall j callee.number n)) by)
  tied_split fn at j callee is frames kept caps word p q n rets On es a h u = call_on true fn at j callee is frames kept caps word FreeSplit p q n rets es a h u
  tied_split fn at j callee is frames kept caps word p q n rets _ es a h u = tt

  -- a free board, by what its front is
  tied_front : (fn p : ℕ) (frame : Frame) → Front g.spots g.policy (g.exit fn) p frame
      → (frames : List Frame) (kept : List (Option Caps)) (caps : Caps) (word : Word) (q : ℕ) (rets : List Ret) (by : Move) → Means q word caps → bad_in g q (slice_get g.spots p) ≡ false
      → Under Means g fn frames kept rets → IsTied Means g (moved problem (board_on (frame ∷ frames) kept caps word Free) Free by) (leads_in g p q rets (slice_get g.spots p) by)
  tied_front fn p _ (is_step {i} {is} raw {n} quiet ways es a) frames kept caps word q rets by h good u =
      subst (λ o. IsTied Means g (moved problem (board_on ((i ∷ is) ∷ frames) kept caps word Free) Free by) (leads_in g p q rets o by)) (sym es) (cases by)
    where
      cases : (by : Move) → IsTied Means g (moved problem (board_on ((i ∷ is) ∷ frames) kept caps word Free) Free by) (leads_in g p q rets (Some (Step n)) by)
      cases On = quiet_on fn i is raw frames kept caps word n q rets OnWay quiet (ways OnWay) a h u
      cases Left = no_way i is frames kept caps word LeftWay quiet (ways LeftWay)
      cases Right = no_way i is frames kept caps word RightWay quiet (ways RightWay)
      cases Opened = no_way i is frames kept caps word OpenedWay quiet (ways OpenedWay)
      cases Failed = no_way i is frames kept caps word FailedWay quiet (ways FailedWay)
      cases _ = tt
  tied_front fn p _ (is_branch {i} {is} left right' {m} {n} quiet ways es a a') frames kept caps word q rets by h good u =
      subst (λ o. IsTied Means g (moved problem (board_on ((i ∷ is) ∷ frames) kept caps word Free) Free by) (leads_in g p q rets o by)) (sym es) (cases by)
    where
      cases : (by : Move) → IsTied Means g (moved problem (board_on ((i ∷ is) ∷ frames) kept caps word Free) Free by) (leads_in g p q rets (Some (Branch m n)) by)
      cases On = no_way i is frames kept caps word OnWay quiet (ways OnWay)
      cases Left = quiet_on fn i is left frames kept caps word m q rets LeftWay quiet (ways LeftWay) a h u
      cases Right = quiet_on fn i is right' frames kept caps word n q rets RightWay quiet (ways RightWay) a' h u
      cases Opened = no_way i is frames kept caps word OpenedWay quiet (ways OpenedWay)
      cases Failed = no_way i is frames kept caps word FailedWay quiet (ways FailedWay)
      cases _ = tt
  tied_front fn p _ (is_label {at} {mark} {j} {l} {s} {is} {n} es a) frames kept caps word q rets by h good u =
      subst (λ o. IsTied Means g (moved problem (board_on ((Todo (Label at mark j l s) ∷ is) ∷ frames) kept caps word Free) Free by) (leads_in g p q rets o by)) (sym es) (cases by)
    where
      fine : IsBad g.policy (word ++ letter_of l caps ∷ []) → ⊥
      fine y = not_both (g.states.bad q l) ((right.bad q word caps l (p, j, n, es) h).1 y) (sym (ap (bad_in g q) es) ∙ good)

      cases : (by : Move) → IsTied Means g (moved problem (board_on ((Todo (Label at mark j l s) ∷ is) ∷ frames) kept caps word Free) Free by) (leads_in g p q rets (Some (LabelSpot j l n)) by)
      cases On = lands fn (Todo s ∷ is) frames kept caps (word ++ letter_of l caps ∷ []) n (g.states.lettered q l) rets a (right.lettered q word caps l (p, j, n, es) h fine) u
      cases _ = tt
  tied_front fn p _ (is_open {at} {j} {d} {is} {n} lt es a) frames kept caps word q rets by h good u =
      subst (λ o. IsTied Means g (moved problem (board_on ((Todo (Open at j d) ∷ is) ∷ frames) kept caps word Free) Free by) (leads_in g p q rets o by)) (sym es) (cases by)
    where
      cases : (by : Move) → IsTied Means g (moved problem (board_on ((Todo (Open at j d) ∷ is) ∷ frames) kept caps word Free) Free by) (leads_in g p q rets (Some (OpenSpot j d n)) by)
      cases Opened =
          let after = with_opened caps d (slice_get g.policy.descriptors d) in
          lands fn is frames kept after (word ++ []) n (g.states.opened q d) rets a (no_letter Means (g.states.opened q d) word [] after refl (right.opened q word caps d (p, j, n, es) lt h)) u
      cases Failed =
          lands fn is frames kept (closed caps d) (word ++ []) n (g.states.closed q d) rets a
          (no_letter Means (g.states.closed q d) word [] (closed caps d) refl (right.closed q word caps d (inl (p, j, n, es)) lt h)) u
      cases _ = tt
  tied_front fn p _ (is_close {at} {j} {d} {is} {n} lt es a) frames kept caps word q rets by h good u =
      subst (λ o. IsTied Means g (moved problem (board_on ((Todo (Close at j d) ∷ is) ∷ frames) kept caps word Free) Free by) (leads_in g p q rets o by)) (sym es) (cases by)
    where
      cases : (by : Move) → IsTied Means g (moved problem (board_on ((Todo (Close at j d) ∷ is) ∷ frames) kept caps word Free) Free by) (leads_in g p q rets (Some (CloseSpot j d n)) by)
      cases On =
          lands fn is frames kept (closed caps d) (word ++ []) n (g.states.closed q d) rets a
          (no_letter Means (g.states.closed q d) word [] (closed caps d) refl (right.closed q word caps d (inr (p, j, n, es)) lt h)) u
      cases _ = tt
  tied_front fn p _ (is_call {at} {j} {callee} {is} {n} es a) frames kept caps word q rets by h good u =
      subst (λ o. IsTied Means g (moved problem (board_on ((Todo (Call at j callee) ∷ is) ∷ frames) kept caps word Free) Free by) (leads_in g p q rets o by)) (sym es.0)
      (tied_call fn at j callee is frames kept caps word p q n rets by es.0 a h u)
  tied_front fn p _ (is_end {f} {is} es ep) frames kept caps word q rets by h good u =
      subst (λ o. IsTied Means g (moved problem (board_on ((End f ∷ is) ∷ frames) kept caps word Free) Free by) (leads_in g p q rets o by)) (sym es)
      (tied_end fn f is frames kept caps word p q rets by u h)

  -- a visit
  tied_visit : (fn : ℕ) (frame : Frame) (frames : List Frame) (kept : List (Option Caps)) (caps : Caps) (word : Word) (i : ℕ) (a : Primitive) (later : List Primitive) (p q j : ℕ)
      (rets : List Ret) (by : Move)
      → Stage g.spots g.policy (g.exit fn) frame i (a ∷ later) p → Means q word caps → Under Means g fn frames kept rets
      → IsTied Means g (moved problem (board_on (frame ∷ frames) kept caps word (Visit i a later)) (Visit i a later) by) (leads_in g p q rets (Some (VisitSpot j i a)) by)
  tied_visit fn frame frames kept caps word i a later p q j rets Skip s h u =
      (fn, stage_at Means g.spots g.policy (g.exit fn) frame caps word (suc i) later (p + 2) q (next_stage g.spots g.policy (g.exit fn) frame i a later p s) h, u)
  tied_visit fn frame frames kept caps word i a later p q j rets Try s h u = (fn, (p, s, refl, h), u)
  tied_visit fn frame frames kept caps word i a later p q j rets _ s h u = tt

  -- what is asked
  unstopped : (y z : Bool) → z ≡ false → y ≡ (y && not z)
  unstopped true z e = ap not (sym e)
  unstopped false z e = refl

  tied_if : (yes : Bool) (b : Board) (c : Config) → (yes ≡ true → Stands Means g b c) → IsTied Means g (cond yes (Some b) None) (cond yes (Some c) None)
  tied_if true b c h = h refl
  tied_if false b c h = tt

  granted_on : (fn : ℕ) (frame : Frame) (frames : List Frame) (kept : List (Option Caps)) (caps : Caps) (word : Word) (i : ℕ) (a : Primitive) (later : List Primitive) (p q : ℕ) (rets : List Ret)
      → let next = granted (board_on (frame ∷ frames) kept caps word (Asked i a later)) i a later in let c = past_asked g p q a rets in StandsIn Means g.spots g.policy (g.exit fn) frame
      next.caps next.word next.phase c.pos c.state
      → Under Means g fn frames kept rets → Stands Means g next c
  granted_on fn frame frames kept caps word i Split later p q rets s u = (fn, s, u)
  granted_on fn frame frames kept caps word i a later p q rets s u = (fn, s, u)

  tied_asked : (fn : ℕ) (frame : Frame) (frames : List Frame) (kept : List (Option Caps)) (caps : Caps) (word : Word) (i : ℕ) (a : Primitive) (later : List Primitive) (o p q j : ℕ)
      (rets : List Ret) (by : Move)
      → Stage g.spots g.policy (g.exit fn) frame i (a ∷ later) o → p ≡ o + 1 → Means q word caps → Under Means g fn frames kept rets → stop_answers g.policy caps (Asked i a later) by ≡ false
      → IsTied Means g (moved problem (board_on (frame ∷ frames) kept caps word (Asked i a later)) (Asked i a later) by) (leads_in g p q rets (Some (AskedSpot j i a)) by)
  tied_asked fn frame frames kept caps word i a later o p q j rets Grant s ep h u never =
      let b = board_on (frame ∷ frames) kept caps word (Asked i a later) in
      subst (λ y. IsTied Means g (cond (may_grant caps a) (Some (granted b i a later)) None) (cond y (Some (past_asked g p q a rets)) None))
      (sym (grants_is Means g right (g.exit fn) frame caps word i a later o q s h))
      (tied_if (may_grant caps a) (granted b i a later) (past_asked g p q a rets)
      (λ y. granted_on fn frame frames kept caps word i a later p q rets (granted_at Means g right (g.exit fn) b frame i a later o p q rets s ep h y) u))
  tied_asked fn frame frames kept caps word i a later o p q j rets Refuse s ep h u never =
      let b = board_on (frame ∷ frames) kept caps word (Asked i a later) in
      let e : may_refuse g.policy caps a ≡ refuses_in g q a =
      unstopped (may_refuse g.policy caps a) (can_stop g.policy caps a) never ∙ sym
      (ap₂ (λ y z. y && not z) (refuses_is Means g right (g.exit fn) frame caps word i a later o q s h) (stops_is Means g right (g.exit fn) frame caps word i a later o q s h)) in
      subst (λ y. IsTied Means g (cond (may_refuse g.policy caps a) (Some (record b { phase = cond y (Refused i a later) (onward (suc i) later) })) None)
      (cond (refuses_in g q a) (Some (at_pair (p + 1) q rets)) None)) (sym never)
      (subst (λ y. IsTied Means g (cond (may_refuse g.policy caps a) (Some (passed_by b i later)) None) (cond y (Some (at_pair (p + 1) q rets)) None)) e
      (tied_if (may_refuse g.policy caps a) (passed_by b i later) (at_pair (p + 1) q rets) (λ y. (fn, refused_at Means g.spots g.policy (g.exit fn) frame caps word i a later o p q s ep h, u))))
  tied_asked fn frame frames kept caps word i a later o p q j rets _ s ep h u never = tt

  -- The board's move and its configuration's, at a pair that isn't bad.
  tied_in : (stack : List Frame) (kept : List (Option Caps)) (caps : Caps) (word : Word) (phase : Phase) (p q : ℕ) (rets : List Ret) (by : Move)
      → StandsOn Means g stack kept caps word phase p q rets → bad_in g q (slice_get g.spots p) ≡ false → stop_answers g.policy caps phase by ≡ false
      → IsTied Means g (moved problem (board_on stack kept caps word phase) phase by) (leads_in g p q rets (slice_get g.spots p) by)
  tied_in [] kept caps word phase p q rets by h good never = absurd h
  tied_in (frame ∷ frames) kept caps word (Visit i a later) p q rets by h good never =
      let s = h.1.0 in
      subst (λ o. IsTied Means g (moved problem (board_on (frame ∷ frames) kept caps word (Visit i a later)) (Visit i a later) by) (leads_in g p q rets o by)) (sym s.4.0)
      (tied_visit h.0 frame frames kept caps word i a later p q s.1 rets by s h.1.1 h.2)
  tied_in (frame ∷ frames) kept caps word (Asked i a later) p q rets by h good never =
      let w = h.1 in
      let s = w.1 in
      subst (λ o. IsTied Means g (moved problem (board_on (frame ∷ frames) kept caps word (Asked i a later)) (Asked i a later) by) (leads_in g p q rets o by))
      (sym (ap (slice_get g.spots) w.2 ∙ s.4.1))
      (tied_asked h.0 frame frames kept caps word i a later w.0 p q s.1 rets by s w.2 w.3 h.2 never)
  tied_in (frame ∷ frames) kept caps word Free p q rets by h good never =
      let w = h.1 in
      tied_front h.0 p frame (front_of g.spots g.policy (g.exit h.0) frame p w.0 w.2) frames kept caps word q rets by w.1 good h.2
  tied_in ((Todo (Call at j callee) ∷ is) ∷ frames) kept caps word FreeSplit p q rets by h good never =
      let w = h.1 in
      let f = w.1 in
      let es = ap (slice_get g.spots) w.3 ∙ f.2.1.1 w.2 in
      subst (λ o. IsTied Means g (moved problem (board_on ((Todo (Call at j callee) ∷ is) ∷ frames) kept caps word FreeSplit) FreeSplit by) (leads_in g p q rets o by)) (sym es)
      (tied_split h.0 at j callee is frames kept caps word p q f.2.0 rets by es (f.0, f.1, f.2.2) w.4 h.2)
  tied_in (_ ∷ frames) kept caps word FreeSplit p q rets by h good never = absurd h.1.2
  tied_in (frame ∷ frames) kept caps word Over p q rets by h good never = absurd h.1
  tied_in (frame ∷ frames) kept caps word (Refused i a later) p q rets by h good never = absurd h.1

  pub tied : (b : Board) (c : Config) (by : Move) → Stands Means g b c → bad_in g c.state (slice_get g.spots c.pos) ≡ false → stop_answers g.policy b.caps b.phase by ≡ false
      → IsTied Means g (moved problem b b.phase by) (leads_to g c by)
  tied b c by h good never = tied_in b.stack b.kept b.caps b.word b.phase c.pos c.state c.rets by h good never

  -- A board violates exactly where its pair is bad.
  front_bad : (x p : ℕ) (frame : Frame) → Front g.spots g.policy x p frame → (caps : Caps) (word : Word) (q : ℕ) → Means q word caps → letters_in frame caps ≢ []
      → IsBad g.policy (word ++ letters_in frame caps) → bad_in g q (slice_get g.spots p) ≡ true
  front_bad x p _ (is_step raw quiet ways es a) caps word q h some bad = absurd (some (quiet.says caps))
  front_bad x p _ (is_branch left right' quiet ways es a a') caps word q h some bad = absurd (some (quiet.says caps))
  front_bad x p _ (is_label {at} {mark} {j} {l} {s} {is} {n} es a) caps word q h some bad = ap (bad_in g q) es ∙ (right.bad q word caps l (p, j, n, es) h).1 bad
  front_bad x p _ (is_open lt es a) caps word q h some bad = absurd (some refl)
  front_bad x p _ (is_close lt es a) caps word q h some bad = absurd (some refl)
  front_bad x p _ (is_call es a) caps word q h some bad = absurd (some refl)
  front_bad x p _ (is_end es ep) caps word q h some bad = absurd (some refl)

  violates_in : (stack : List Frame) (kept : List (Option Caps)) (caps : Caps) (word : Word) (phase : Phase) (p q : ℕ) (rets : List Ret)
      → StandsOn Means g stack kept caps word phase p q rets → Violates problem (board_on stack kept caps word phase) → bad_in g q (slice_get g.spots p) ≡ true
  violates_in [] kept caps word phase p q rets h v = absurd h
  violates_in (frame ∷ frames) kept caps word Free p q rets h v =
      let w = h.1 in
      front_bad (g.exit h.0) p frame (front_of g.spots g.policy (g.exit h.0) frame p w.0 w.2) caps word q w.1 v.1 v.2
  violates_in (frame ∷ frames) kept caps word (Visit i a later) p q rets h v = let w = v.0 in cc
  violates_in (frame ∷ frames) kept caps word (Asked i a later) p q rets h v = let w = v.0 in cc
  violates_in (frame ∷ frames) kept caps word (Refused i a later) p q rets h v = absurd h.1
  violates_in (frame ∷ frames) kept caps word FreeSplit p q rets h v = let w = v.0 in cc
  violates_in (frame ∷ frames) kept caps word Over p q rets h v = let w = v.0 in cc

  pub violates_bad : (b : Board) (c : Config) → Stands Means g b c → Violates problem b → bad_in g c.state (slice_get g.spots c.pos) ≡ true
  violates_bad b c h v = violates_in b.stack b.kept b.caps b.word b.phase c.pos c.state c.rets h v

  bad_not : (q p : ℕ) (spot : Spot) → slice_get g.spots p ≡ Some spot → bad_in g q (Some spot) ≡ false → bad_in g q (slice_get g.spots p) ≡ true → ⊥
  bad_not q p spot es good bad = not_both (bad_in g q (slice_get g.spots p)) bad (ap (bad_in g q) es ∙ good)

  bad_front : (x p : ℕ) (frame : Frame) → Front g.spots g.policy x p frame → (caps : Caps) (word : Word) (q : ℕ) → Means q word caps → bad_in g q (slice_get g.spots p) ≡ true
      → (letters_in frame caps ≢ []) × IsBad g.policy (word ++ letters_in frame caps)
  bad_front x p _ (is_step raw {n} quiet ways es a) caps word q h bad = absurd (bad_not q p (Step n) es refl bad)
  bad_front x p _ (is_branch left right' {m} {n} quiet ways es a a') caps word q h bad = absurd (bad_not q p (Branch m n) es refl bad)
  bad_front x p _ (is_label {at} {mark} {j} {l} {s} {is} {n} es a) caps word q h bad = ((λ e. cc), (right.bad q word caps l (p, j, n, es) h).0 (sym (ap (bad_in g q) es) ∙ bad))
  bad_front x p _ (is_open {at} {j} {d} {is} {n} lt es a) caps word q h bad = absurd (bad_not q p (OpenSpot j d n) es refl bad)
  bad_front x p _ (is_close {at} {j} {d} {is} {n} lt es a) caps word q h bad = absurd (bad_not q p (CloseSpot j d n) es refl bad)
  bad_front x p _ (is_call {at} {j} {callee} {is} {n} es a) caps word q h bad = absurd (bad_not q p (CallSpot j callee.number n) es.0 refl bad)
  bad_front x p _ (is_end {f} {is} es ep) caps word q h bad = absurd (bad_not q p (Exit f) es refl bad)

  bad_on : (stack : List Frame) (kept : List (Option Caps)) (caps : Caps) (word : Word) (phase : Phase) (p q : ℕ) (rets : List Ret) → StandsOn Means g stack kept caps word phase p q rets
      → bad_in g q (slice_get g.spots p) ≡ true → Violates problem (board_on stack kept caps word phase)
  bad_on [] kept caps word phase p q rets h bad = absurd h
  bad_on (frame ∷ frames) kept caps word (Visit i a later) p q rets h bad = absurd (bad_not q p (VisitSpot h.1.0.1 i a) h.1.0.4.0 refl bad)
  bad_on (frame ∷ frames) kept caps word (Asked i a later) p q rets h bad = absurd (bad_not q p (AskedSpot h.1.1.1 i a) (ap (slice_get g.spots) h.1.2 ∙ h.1.1.4.1) refl bad)
  bad_on (frame ∷ frames) kept caps word Free p q rets h bad =
      let w = h.1 in
      let k = bad_front (g.exit h.0) p frame (front_of g.spots g.policy (g.exit h.0) frame p w.0 w.2) caps word q w.1 bad in
      (refl, k.0, k.1)
  bad_on ((Todo (Call at j callee) ∷ is) ∷ frames) kept caps word FreeSplit p q rets h bad =
      absurd (bad_not q p (SplitCall j callee.number h.1.1.2.0) (ap (slice_get g.spots) h.1.3 ∙ h.1.1.2.1.1 h.1.2) refl bad)
  bad_on (_ ∷ frames) kept caps word FreeSplit p q rets h bad = absurd h.1.2
  bad_on (frame ∷ frames) kept caps word (Refused i a later) p q rets h bad = absurd h.1
  bad_on (frame ∷ frames) kept caps word Over p q rets h bad = absurd h.1

  pub bad_violates : (b : Board) (c : Config) → Stands Means g b c → bad_in g c.state (slice_get g.spots c.pos) ≡ true → Violates problem b
  bad_violates b c h bad = bad_on b.stack b.kept b.caps b.word b.phase c.pos c.state c.rets h bad

  -- Whose turn it is.
  front_turn : (x p : ℕ) (frame : Frame) → Front g.spots g.policy x p frame → weavers_in (slice_get g.spots p) ≡ false
  front_turn x p _ (is_step raw quiet ways es a) = ap weavers_in es
  front_turn x p _ (is_branch left right' quiet ways es a a') = ap weavers_in es
  front_turn x p _ (is_label es a) = ap weavers_in es
  front_turn x p _ (is_open lt es a) = ap weavers_in es
  front_turn x p _ (is_close lt es a) = ap weavers_in es
  front_turn x p _ (is_call es a) = ap weavers_in es.0
  front_turn x p _ (is_end es ep) = ap weavers_in es

  turn_by : (p : ℕ) (weavers : Bool) → weavers_in (slice_get g.spots p) ≡ weavers → Some (party_of weavers) ≡ Some (party_of (weavers_in (slice_get g.spots p)))
  turn_by p weavers e = ap (λ y. Some (party_of y)) (sym e)

  turn_on : (stack : List Frame) (kept : List (Option Caps)) (caps : Caps) (word : Word) (phase : Phase) (p q : ℕ) (rets : List Ret) → StandsOn Means g stack kept caps word phase p q rets
      → turn_of phase ≡ Some (party_of (weavers_in (slice_get g.spots p)))
  turn_on [] kept caps word phase p q rets h = absurd h
  turn_on (frame ∷ frames) kept caps word (Visit i a later) p q rets h = turn_by p true (ap weavers_in h.1.0.4.0)
  turn_on (frame ∷ frames) kept caps word (Asked i a later) p q rets h = turn_by p false (ap weavers_in (ap (slice_get g.spots) h.1.2 ∙ h.1.1.4.1))
  turn_on (frame ∷ frames) kept caps word Free p q rets h =
      let w = h.1 in
      turn_by p false (front_turn (g.exit h.0) p frame (front_of g.spots g.policy (g.exit h.0) frame p w.0 w.2))
  turn_on ((Todo (Call at j callee) ∷ is) ∷ frames) kept caps word FreeSplit p q rets h = turn_by p false (ap weavers_in (ap (slice_get g.spots) h.1.3 ∙ h.1.1.2.1.1 h.1.2))
  turn_on (_ ∷ frames) kept caps word FreeSplit p q rets h = absurd h.1.2
  turn_on (frame ∷ frames) kept caps word (Refused i a later) p q rets h = absurd h.1
  turn_on (frame ∷ frames) kept caps word Over p q rets h = absurd h.1

  pub turn_is : (b : Board) (c : Config) → Stands Means g b c → turn_of b.phase ≡ Some (party_of (weavers_in (slice_get g.spots c.pos)))
  turn_is b c h = turn_on b.stack b.kept b.caps b.word b.phase c.pos c.state c.rets h

  pub weavers_turn : (b : Board) (c : Config) → Stands Means g b c → weavers_in (slice_get g.spots c.pos) ≡ true → turn_of b.phase ≡ Some Weaver
  weavers_turn b c h e = turn_is b c h ∙ ap (λ y. Some (party_of y)) e

  pub environments_turn : (b : Board) (c : Config) → Stands Means g b c → weavers_in (slice_get g.spots c.pos) ≡ false → turn_of b.phase ≡ Some Environment
  environments_turn b c h e = turn_is b c h ∙ ap (λ y. Some (party_of y)) e

  -- the pair's state is one of the states
  state_on : (stack : List Frame) (kept : List (Option Caps)) (caps : Caps) (word : Word) (phase : Phase) (p q : ℕ) (rets : List Ret) → StandsOn Means g stack kept caps word phase p q rets
      → q < g.states.count
  state_on [] kept caps word phase p q rets h = absurd h
  state_on (frame ∷ frames) kept caps word (Visit i a later) p q rets h = right.within q word caps h.1.1
  state_on (frame ∷ frames) kept caps word (Asked i a later) p q rets h = right.within q word caps h.1.3
  state_on (frame ∷ frames) kept caps word Free p q rets h = right.within q word caps h.1.1
  state_on (frame ∷ frames) kept caps word FreeSplit p q rets h = right.within q word caps h.1.4
  state_on (frame ∷ frames) kept caps word (Refused i a later) p q rets h = absurd h.1
  state_on (frame ∷ frames) kept caps word Over p q rets h = absurd h.1

  pub state_within : (b : Board) (c : Config) → Stands Means g b c → c.state < g.states.count
  state_within b c h = state_on b.stack b.kept b.caps b.word b.phase c.pos c.state c.rets h

  -- the board isn't in Refused
  unrefused_on : (stack : List Frame) (kept : List (Option Caps)) (caps : Caps) (word : Word) (phase : Phase) (p q : ℕ) (rets : List Ret)
      → StandsOn Means g stack kept caps word phase p q rets → is_refused phase ≡ false
  unrefused_on [] kept caps word phase p q rets h = absurd h
  unrefused_on (frame ∷ frames) kept caps word (Refused i a later) p q rets h = absurd h.1
  unrefused_on (frame ∷ frames) kept caps word _ p q rets h = refl

  pub unrefused : (b : Board) (c : Config) → Stands Means g b c → is_refused b.phase ≡ false
  unrefused b c h = unrefused_on b.stack b.kept b.caps b.word b.phase c.pos c.state c.rets h

  -- a move of the configuration is no refusal that a stop can answer
  refused_only : (yes stops : Bool) (c next : Config) → cond (yes && not stops) (Some c) None ≡ Some next → stops ≡ false
  refused_only true true c next e = absurd (none-some next e)
  refused_only true false c next e = refl
  refused_only false stops c next e = absurd (none-some next e)

  unanswered_on : (stack : List Frame) (kept : List (Option Caps)) (caps : Caps) (word : Word) (phase : Phase) (p q : ℕ) (rets : List Ret) (by : Move) (next : Config)
      → StandsOn Means g stack kept caps word phase p q rets → leads_in g p q rets (slice_get g.spots p) by ≡ Some next → stop_answers g.policy caps phase by ≡ false
  unanswered_on [] kept caps word phase p q rets by next h e = absurd h
  unanswered_on (frame ∷ frames) kept caps word (Asked i a later) p q rets Refuse next h e =
      let w = h.1 in
      let s = w.1 in
      let es = ap (slice_get g.spots) w.2 ∙ s.4.1 in
      sym (stops_is Means g right (g.exit h.0) frame caps word i a later w.0 q s w.3)
      ∙ refused_only (may_refuse_in g q a) (can_stop_in g q a) (at_pair (p + 1) q rets) next (sym (ap (λ o. leads_in g p q rets o Refuse) es) ∙ e)
  unanswered_on (frame ∷ frames) kept caps word _ p q rets _ next h e = refl

  pub unanswered : (b : Board) (c next : Config) (by : Move) → Stands Means g b c → leads_to g c by ≡ Some next → stop_answers g.policy b.caps b.phase by ≡ false
  unanswered b c next by h e = unanswered_on b.stack b.kept b.caps b.word b.phase c.pos c.state c.rets by next h e

  -- a move of the configuration is one of the board
  tied_board : (o : Option Board) (c : Config) → IsTied Means g o (Some c) → (b : Board) × (o ≡ Some b) × Stands Means g b c
  tied_board None c h = absurd h
  tied_board (Some b) c h = (b, refl, h)

  pub board_moves : (b : Board) (c next : Config) (by : Move) → Stands Means g b c → bad_in g c.state (slice_get g.spots c.pos) ≡ false → leads_to g c by ≡ Some next
      → (to : Board) × Moves problem b by to × Stands Means g to next × (stop_answers g.policy b.caps b.phase by ≡ false)
  board_moves b c next by h good e =
      let never = unanswered b c next by h e in
      let to = tied_board (moved problem b b.phase by) next (subst (λ o. IsTied Means g (moved problem b b.phase by) o) e (tied b c by h good never)) in
      (to.0, ((λ v. not_both (bad_in g c.state (slice_get g.spots c.pos)) (violates_bad b c h v) good), to.1), to.2, never)

  -- the weaver's moves are the pair's too
  weavers_pair : (b : Board) (phase : Phase) (spot : Option Spot) (p q : ℕ) (rets : List Ret) (by : Move) (next : Board) → turn_of phase ≡ Some Weaver → weavers_in spot ≡ true
      → is_refused phase ≡ false → moved problem b phase by ≡ Some next → (c : Config) × (leads_in g p q rets spot by ≡ Some c)
  weavers_pair b (Visit i a later) (Some (VisitSpot j k d)) p q rets Skip next t w r e = (at_pair (p + 2) q rets, refl)
  weavers_pair b (Visit i a later) (Some (VisitSpot j k d)) p q rets Try next t w r e = (at_pair (p + 1) q rets, refl)
  weavers_pair b (Visit i a later) (Some (VisitSpot j k d)) p q rets _ next t w r e = absurd (none-some next e)
  weavers_pair b (Visit i a later) _ p q rets by next t w r e = cc
  weavers_pair b (Refused i a later) spot p q rets by next t w r e = cc
  weavers_pair b (Asked i a later) spot p q rets by next t w r e = let y = same_Some _ _ t in cc
  weavers_pair b Free spot p q rets by next t w r e = let y = same_Some _ _ t in cc
  weavers_pair b FreeSplit spot p q rets by next t w r e = let y = same_Some _ _ t in cc
  weavers_pair b Over spot p q rets by next t w r e = absurd (none-some _ t)

  -- what the weaver leads to from its pair stands again
  weavers_to : (b : Board) (c : Config) (by : Move) (to : Board) → Stands Means g b c → weavers_in (slice_get g.spots c.pos) ≡ true → moved problem b b.phase by ≡ Some to
      → (next : Config) × (leads_to g c by ≡ Some next) × Stands Means g to next
  weavers_to b c by to h w e =
      let k = weavers_pair b b.phase (slice_get g.spots c.pos) c.pos c.state c.rets by to (weavers_turn b c h w) w (unrefused b c h) e in (
        k.0,
        k.1,
        subst (λ o. IsTied Means g o (Some k.0)) e (subst (λ o. IsTied Means g (moved problem b b.phase by) o) k.1
            (tied b c by h (weavers_good g c.state (slice_get g.spots c.pos) w) (unanswered b c k.0 by h k.1))),
      )

  -- What is forced of a configuration is forced of the boards that stand there.
  forced_in : (n : ℕ) (b : Board) (c : Config) → Stands Means g b c → ForcedAt g n c → Forced problem n b
  forced_in zero b c h f = bad_violates b c h f
  forced_in (suc n) b c h f =
      ⊎_elim (λ y. inl (bad_violates b c h y)) (λ r. ⊎_elim
      (λ w. inr (inl (weavers_turn b c h w.0, λ by to mv. let k = weavers_to b c by to h w.0 mv.1 in forced_in n to k.0 k.2 (w.1 by k.0 k.1))))
      (λ w. by_good (bad_in g c.state (slice_get g.spots c.pos)) refl (bad_violates b c h) (λ good.
      let k = w.1 in
      let to = board_moves b c k.1 k.0 h good k.2 in
      (environments_turn b c h w.0, (k.0, to.0, to.1, forced_in n to.0 k.1 to.2 k.3)))) r) f
    where
      by_good : {A B C : Type 0} (bad : Bool) → bad_in g c.state (slice_get g.spots c.pos) ≡ bad → (bad_in g c.state (slice_get g.spots c.pos) ≡ true → A)
          → (bad_in g c.state (slice_get g.spots c.pos) ≡ false → C) → A ⊎ (B ⊎ C)
      by_good true e f k = inl (f e)
      by_good false e f k = inr (inr (k e))

  -- The start stands at the entry of `main`.
  pub starts_at : Stands Means g (start_board problem) (at_pair (g.entry g.main) g.states.start [])
  starts_at =
      let r = has.main in
      let es : frame_of plan plan.main ≡ Some (new_frame g.main r.0) = ap (frame_of plan) laid.main ∙ ap (option_map (new_frame g.main)) r.1 in
      let st = enters_at Means g right plan g.main r.0 (start_caps g.policy) [] g.states.start (laid.functions g.main r.0 r.1) right.begins in
      subst (λ o. StandsOn Means g (stack_of o) (None ∷ []) (start_caps g.policy) [] (begin g.policy (stack_of o)) (g.entry g.main) g.states.start []) (sym es) (g.main, st, tt)

-- The same of a problem whose policy is the game's.
module _ (Means : Meaning) (g : Game) (p : Problem) (e : g.policy ≡ p.policy) (right : AreStates g.policy g.spots g.states Means) (laid : IsLaidOut p.plan g) (has : HasRoutines p.plan g) where
  pub with_policy : record { plan = p.plan; policy = g.policy } ≡ p
  with_policy = ap (λ policy. record { plan = p.plan; policy = policy }) e

  pub forced_board : (n : ℕ) (b : Board) (c : Config) → Stands Means g b c → ForcedAt g n c → Forced p n b
  forced_board n b c h f = subst (λ y. Forced y n b) with_policy (forced_in Means g p.plan right laid has n b c h f)

  pub start_stands : Stands Means g (start_board p) (at_pair (g.entry g.main) g.states.start [])
  start_stands = subst (λ y. Stands Means g (start_board y) (at_pair (g.entry g.main) g.states.start [])) with_policy (starts_at Means g p.plan right laid has)
