-- What holds at every board of a woven run, over the whole stack.
use Rattle.std.proofs.Common.{◌≡◌, ◌⊎◌, ℕ, suc, ◌+◌, ◌<◌, length, List, [], ◌∷◌, ◌++◌, Bool, true, false, cond, not, ◌&&◌, ◌||◌, Option, Some, None, is_some, find, nat_eq, option_map}
use Rattle.std.proofs.Common.{option_and_then, refl, sym, ap, ap₂, ◌∙◌, subst, inl, inr, ⊎_elim, eqb-true, eq-eqb}
use Rattle.std.specs.Prelude.{slice_get}
use Rattle.std.proofs.lemmas.Option.{none-some, same_Some, cond_some}
use Rattle.cw_core.specs.declared.ids.MemId.{MemId}
use Rattle.cw_core.specs.declared.ids.StateId.{StateId}
use Rattle.cw_core.specs.declared.ids.PosId.{PosId}
use Rattle.cw_rights.specs.declared.capabilities.Caps.{Caps}
use Rattle.cw_rights.specs.declared.capabilities.Primitive.{Primitive}
use Rattle.cw_rights.specs.declared.capabilities.Primitive.TheVariants.{Split}
use Rattle.cw_rights.specs.Capabilities.{closed}
use Rattle.cw_rights.specs.Words.{Word}
use Rattle.cw_rights.specs.Policies.{PlainPolicy, IsBad, primitives}
use Rattle.cw_certs.specs.declared.moves.Move.{Move}
use Rattle.cw_certs.specs.declared.moves.Move.TheVariants.{Skip, Try, Grant, Refuse, Stop, On, Left, Right}
use Rattle.cw_certs.specs.declared.rows.TryRow.{TryRow}
use Rattle.cw_certs.specs.declared.rows.AtRow.{AtRow}
use Rattle.cw_certs.specs.declared.rows.OpenRow.{OpenRow}
use Rattle.cw_certs.specs.declared.rows.IntoRow.{IntoRow}
use Rattle.cw_certs.specs.declared.rows.BackRow.{BackRow}
use Rattle.cw_certs.specs.Tables.{Table, try_at, after_at, open_at, into_at, back_at, state_of}
use Rattle.cw_syntax.specs.Plans.{Callee, Stm, Open, Close, Call, Label, Routine, Plan}
use Rattle.cw_syntax.specs.Frames.{Item, Todo, End, Frame, new_frame, settle, Way, after, pass, popped}
use Rattle.cw_syntax.specs.Frames.{On as OnWay, Left as LeftWay, Right as RightWay, Opened as OpenedWay, Failed as FailedWay}
use Rattle.cw_model.specs.Boards.{Problem, Phase, Visit, Asked, Refused, Free, FreeSplit, Over, Board, seam_in, onward, begin, letters_in, may_grant, may_refuse, can_stop, way_of, mode_of}
use Rattle.cw_model.specs.Boards.{kept_after, with_opened, given_back, caps_after, landed, granted, passed_by, refused, answered, moved, Environment, turn_of, move_of}
use Rattle.cw_model.specs.Runs.{try_in, try_of, mem_in, refused_with, stops, top_by, stays_where, stays_unless, called_with, returned_with, return_memories, was_split, step_memories}
use Rattle.cw_model.specs.Runs.{memories, State, WovenStep}
use Rattle.cw_game.specs.declared.spots.Spot.{Spot}
use Rattle.cw_game.specs.declared.spots.Spot.TheVariants.{Step, Branch, Visit as VisitSpot, Asked as AskedSpot, Label as LabelSpot, Open as OpenSpot, Close as CloseSpot, Call as CallSpot, SplitCall}
use Rattle.cw_game.specs.Games.{AreStates, letter_of, Game, can_stop_in, refuses_in, returned, Ret, past_asked}
use Rattle.cw_game.specs.Places.{At, IsLaidOut}
use Rattle.cw_game.specs.Pairs.{is_live, means_it, leads, leads_if, call_spot, kept_at}
use Rattle.cw_game.specs.Standing.{Meaning, Resumes, StandsIn, Stage}
use Rattle.cw_game.specs.Closed.{leads_where, asked_ok, row_leads, open_leads, back_leads, returns_in, returns_ok, enters, call_ok, row_ok_in, row_ok_by, row_ok, rows_ok}
use Rattle.cw_game.proofs.Moves.{step_of}
use Rattle.cw_game.proofs.Fronts.{next_stage, IsQuiet, on_only, either, Front, is_step, is_branch, is_label, is_open, is_close, is_call, is_end, front_of}
use Rattle.cw_game.proofs.Truths.{or_parts, not_true}
use Rattle.std.proofs.lemmas.Bool.{and_parts, and_from as both}
use Rattle.cw_game.proofs.Stands.{mode_kept, same_kept, no_letter, stage_at, lands_at, refused_at, grants_is, refuses_is, stops_is, granted_at, given_is, enters_at}

found : {A : Type 0} (b : Bool) (x : A) (o : Option A) → is_some (cond b (Some x) o) ≡ true → (b ≡ true) ⊎ (is_some o ≡ true)
found true x o h = inl refl
found false x o h = inr h

-- a frame of fn2, with the memory m and the promise e2, that waits for the end of fn, which has the promise e
pub record Waits (Means : Meaning) (g : Game) (t : Table) (fn e fn2 e2 m : ℕ) (frame : Frame) (k : Option Caps) (r : Ret) : Type 0 where
  pub resumes : Resumes Means g fn fn2 frame k r
  pub ways : returns_ok g t resumes.seam r.kept m r.back (g.exit fn) e2 e t.live ≡ true

-- where the top frame rests: where it stands, or in Refused where it stood when it was asked, with a refusal that a stop can answer
abbrev pub RestsIn : Meaning → List Spot → PlainPolicy → ℕ → Frame → Caps → Word → Phase → ℕ → ℕ → Type 0
RestsIn Means g pol x frame caps word (Refused i a later) p q = (o : ℕ) × Stage g pol x frame i (a ∷ later) o × (p ≡ o + 1) × Means q word caps × (can_stop pol caps a ≡ true)
RestsIn Means g pol x frame caps word Over p q = Unit {0}
RestsIn Means g pol x frame caps word phase p q = StandsIn Means g pol x frame caps word phase p q

pub rests : (Means : Meaning) (g : List Spot) (pol : PlainPolicy) (x : ℕ) (frame : Frame) (caps : Caps) (word : Word) (phase : Phase) (p q : ℕ)
    → StandsIn Means g pol x frame caps word phase p q → RestsIn Means g pol x frame caps word phase p q
rests Means g pol x frame caps word (Visit i a later) p q h = h
rests Means g pol x frame caps word (Asked i a later) p q h = h
rests Means g pol x frame caps word (Refused i a later) p q h = absurd h
rests Means g pol x frame caps word Free p q h = h
rests Means g pol x frame caps word FreeSplit p q h = h
rests Means g pol x frame caps word Over p q h = tt

-- A fact `Ex` of its promise and of the returns below it is carried at each level.
module _ (Means : Meaning) (Ex : ℕ → List Ret → Type 0) (g : Game) (t : Table) where
  -- the memory means this state with this promise
  abbrev pub IsMeant : ℕ → ℕ → ℕ → Type 0
  IsMeant m q e = means_it (slice_get t.mems m) q e ≡ true

  -- the frames below one of fn with the promise e, with their memories, what is kept beside them and the returns
  abbrev pub Below : ℕ → ℕ → List Frame → List ℕ → List (Option Caps) → List Ret → Type 0
  Below fn e [] [] kept [] = Unit {0}
  Below fn e (frame ∷ frames) (m ∷ ms) (k ∷ kept) (r ∷ rets) = (fn2 : ℕ) × (e2 : ℕ) × Waits Means g t fn e fn2 e2 m frame k r × Ex e2 rets × Below fn2 e2 frames ms kept rets
  Below fn e _ _ _ _ = ⊥

  -- the top frame of fn stands at a live pair, which its memory means
  abbrev pub Top : ℕ → ℕ → Frame → Caps → Word → Phase → ℕ → Type 0
  Top fn e frame caps word phase m = (p : ℕ) × (q : ℕ) × RestsIn Means g.spots g.policy (g.exit fn) frame caps word phase p q × (is_live t p m ≡ true) × IsMeant m q e

  abbrev pub KeptOn : List Frame → Caps → Word → Phase → List (Option Caps) → List ℕ → Type 0
  KeptOn [] caps word Over kept ms = Unit {0}
  KeptOn [] caps word phase kept ms = ⊥
  KeptOn (frame ∷ frames) caps word phase kept [] = ⊥
  KeptOn (frame ∷ frames) caps word phase kept (m ∷ ms) = (fn : ℕ) × (e : ℕ) × (rets : List Ret) × Top fn e frame caps word phase m × Ex e rets × Below fn e frames ms kept rets

  abbrev pub Kept : Board → List ℕ → Type 0
  Kept b ms = KeptOn b.stack b.caps b.word b.phase b.kept ms

  -- what a call hands to the callee's promise e2
  abbrev pub Hands : Type 0
  Hands =
      (p m q e j f n e2 : ℕ) (split : Bool) (r : IntoRow) (rets : List Ret) (word : Word) (caps : Caps) → Means q word caps → is_live t p m ≡ true → IsMeant m q e → slice_get g.spots p ≡
      Some (call_spot split j f n) → into_at t j split m ≡ Some r → IsMeant r.callee.0 q e2 → Ex e rets → Ex e2 (record { back = n; kept = kept_at split q } ∷ rets)

  meant : (o : Option (StateId × ℕ)) (q e : ℕ) → means_it o q e ≡ true → (r : StateId × ℕ) × (o ≡ Some r) × (r.0.0 ≡ q) × (r.1 ≡ e)
  meant None q e h = cc
  meant (Some r) q e h = let k = and_parts (nat_eq r.0.0 q) (nat_eq r.1 e) h in (r, refl, eqb-true r.0.0 q k.0, eqb-true r.1 e k.1)

  pub state_meant : (m q e : ℕ) → IsMeant m q e → state_of t m ≡ Some q
  state_meant m q e h = let k = meant (slice_get t.mems m) q e h in ap (option_map (λ r. r.0.0)) k.1 ∙ ap Some k.2

  module _ (plan : Plan) (right : AreStates g.policy g.spots g.states Means) (laid : IsLaidOut plan g) (ok : rows_ok g t t.live ≡ true) (hands : Hands) where
    abbrev pub problem : Problem
    problem = record { plan = plan; policy = g.policy }

    -- The conditions of a row, and what each kind says.
    live_in : (rows : List (PosId × MemId)) (p m : ℕ) → rows_ok g t rows ≡ true → is_some (find (λ r. nat_eq r.0.0 p && nat_eq r.1.0 m) rows) ≡ true → row_ok g t p m ≡ true
    live_in [] p m h l = cc
    live_in (r ∷ rows) p m h l =
        let hs = and_parts (row_ok g t r.0.0 r.1.0) (rows_ok g t rows) h in
        ⊎_elim
        (λ k. let e = and_parts (nat_eq r.0.0 p) (nat_eq r.1.0 m) k in sym (ap₂ (row_ok g t) (eqb-true r.0.0 p e.0) (eqb-true r.1.0 m e.1)) ∙ hs.0)
        (λ k. live_in rows p m hs.1 k)
        (found (nat_eq r.0.0 p && nat_eq r.1.0 m) r (find (λ r. nat_eq r.0.0 p && nat_eq r.1.0 m) rows) l)

    row_by : (p m q e : ℕ) (o : Option (StateId × ℕ)) → row_ok_by g t p m o ≡ true → means_it o q e ≡ true → row_ok_in g t p m q e (slice_get g.spots p) ≡ true
    row_by p m q e None h k = cc
    row_by p m q e (Some r) h k =
        let w = and_parts (nat_eq r.0.0 q) (nat_eq r.1 e) k in
        sym (ap₂ (λ y z. row_ok_in g t p m y z (slice_get g.spots p)) (eqb-true r.0.0 q w.0) (eqb-true r.1 e w.1)) ∙ h

    pub row_in : (p m q e : ℕ) (s : Spot) → is_live t p m ≡ true → IsMeant m q e → slice_get g.spots p ≡ Some s → row_ok_in g t p m q e (Some s) ≡ true
    row_in p m q e s l k es = sym (ap (row_ok_in g t p m q e) es) ∙ row_by p m q e (slice_get t.mems m) (live_in t.live p m ok l) k

    pub leads_to : (p m q e : ℕ) → leads t p m q e ≡ true → (is_live t p m ≡ true) × IsMeant m q e
    leads_to p m q e h = let k = and_parts (means_it (slice_get t.mems m) q e) (is_live t p m) h in (k.1, k.0)

    found_mem : (m : MemId) (q e : ℕ) → IsMeant m.0 q e → mem_in t m ≡ Some m.0
    found_mem m q e h = let k = meant (slice_get t.mems m.0) q e h in ap (option_map (λ r. m.0)) k.1

    led_mem : (n q e : ℕ) (m : MemId) → leads t n m.0 q e ≡ true → mem_in t m ≡ Some m.0
    led_mem n q e m h = found_mem m q e (leads_to n m.0 q e h).1

    row_some : (n q e : ℕ) (o : Option AtRow) → row_leads t n q e o ≡ true → (k : ℕ) × (option_and_then (λ r. mem_in t r.after) o ≡ Some k) × (leads t n k q e ≡ true)
    row_some n q e None h = cc
    row_some n q e (Some r) h = (r.after.0, led_mem n q e r.after h, h)

    back_some : (n q e : ℕ) (o : Option BackRow) → back_leads t n q e o ≡ true → (k : ℕ) × (option_and_then (λ r. mem_in t r.after) o ≡ Some k) × (leads t n k q e ≡ true)
    back_some n q e None h = cc
    back_some n q e (Some r) h = (r.after.0, led_mem n q e r.after h, h)

    open_some : (n qo qf e : ℕ) (o : Option OpenRow) → open_leads t n qo qf e o ≡ true → (r : OpenRow) × (o ≡ Some r) × (leads t n r.opened.0 qo e ≡ true) × (leads t n r.failed.0 qf e ≡ true)
    open_some n qo qf e None h = cc
    open_some n qo qf e (Some r) h = let k = and_parts (leads t n r.opened.0 qo e) (leads t n r.failed.0 qf e) h in (r, refl, k.0, k.1)

    if_some : (p q e : ℕ) (o : Option MemId) → leads_if t p o q e ≡ true → (k : ℕ) × (option_and_then (mem_in t) o ≡ Some k) × (leads t p k q e ≡ true)
    if_some p q e None h = cc
    if_some p q e (Some m) h = (m.0, led_mem p q e m h, h)

    -- the parts of what is asked
    asked_parts : (grants refuses halts : Bool) (pg pr qg q e : ℕ) (r : TryRow) → asked_ok grants refuses halts t pg pr qg q e (Some r) ≡ true
        → ((not grants || leads_if t pg r.granted qg e) ≡ true) × ((not refuses || leads_if t pr r.refused q e) ≡ true) × ((not halts || leads_where t pr r.refused q e) ≡ true)
    asked_parts grants refuses halts pg pr qg q e r h =
        let refused_part = not refuses || leads_if t pr r.refused q e in
        let halts_part = not halts || leads_where t pr r.refused q e in
        let w = and_parts (not grants || leads_if t pg r.granted qg e) (refused_part && halts_part) h in
        let z = and_parts refused_part halts_part w.1 in
        (w.0, z.0, z.1)

    pub granted_some : (grants refuses halts : Bool) (pg pr qg q e : ℕ) (o : Option TryRow) → asked_ok grants refuses halts t pg pr qg q e o ≡ true → grants ≡ true
        → (k : ℕ) × (option_and_then (λ r. option_and_then (mem_in t) r.granted) o ≡ Some k) × (leads t pg k qg e ≡ true)
    granted_some grants refuses halts pg pr qg q e None h y = cc
    granted_some grants refuses halts pg pr qg q e (Some r) h y = if_some pg qg e r.granted (or_parts grants (leads_if t pg r.granted qg e) (asked_parts grants refuses halts pg pr qg q e r h).0 y)

    pub refused_some : (grants refuses halts : Bool) (pg pr qg q e : ℕ) (o : Option TryRow) → asked_ok grants refuses halts t pg pr qg q e o ≡ true → refuses ≡ true
        → (k : ℕ) × (refused_with t o ≡ Some k) × (leads t pr k q e ≡ true)
    refused_some grants refuses halts pg pr qg q e None h y = cc
    refused_some grants refuses halts pg pr qg q e (Some r) h y = if_some pr q e r.refused (or_parts refuses (leads_if t pr r.refused q e) (asked_parts grants refuses halts pg pr qg q e r h).1 y)

    -- after a refusal that a stop can answer the row has no memory for it, or one with which going on leads on
    where_some : (pr q e : ℕ) (o : Option MemId) → leads_where t pr o q e ≡ true → (o ≡ None) ⊎ ((k : ℕ) × (option_and_then (mem_in t) o ≡ Some k) × (leads t pr k q e ≡ true))
    where_some pr q e None h = inl refl
    where_some pr q e (Some m) h = inr (m.0, led_mem pr q e m h, h)

    pub halted_some : (grants refuses halts : Bool) (pg pr qg q e : ℕ) (o : Option TryRow) → asked_ok grants refuses halts t pg pr qg q e o ≡ true → halts ≡ true
        → (stops o ≡ true) ⊎ ((k : ℕ) × (refused_with t o ≡ Some k) × (leads t pr k q e ≡ true))
    halted_some grants refuses halts pg pr qg q e None h y = cc
    halted_some grants refuses halts pg pr qg q e (Some r) h y =
        ⊎_elim (λ n. inl (ap (λ o. not (is_some o)) n)) (λ k. inr k)
        (where_some pr q e r.refused (or_parts halts (leads_where t pr r.refused q e) (asked_parts grants refuses halts pg pr qg q e r h).2 y))

    stops_without : (o : Option TryRow) (k : ℕ) → stops o ≡ true → refused_with t o ≡ Some k → ⊥
    stops_without None k h e = cc
    stops_without (Some r) k h e = by r.refused h e
      where
        by : (o : Option MemId) → not (is_some o) ≡ true → option_and_then (mem_in t) o ≡ Some k → ⊥
        by None h e = none-some k e
        by (Some m) h e = cc

    entered : (j : ℕ) (kept : Option ℕ) (m n f q e k : ℕ) (o : Option (StateId × ℕ)) → enters g t j kept m n f q e k o ≡ true
        → (e2 : ℕ) × (means_it o q e2 ≡ true) × (is_live t (g.entry f) k ≡ true) × (returns_ok g t j kept m n (g.exit f) e e2 t.live ≡ true)
    entered j kept m n f q e k None h = cc
    entered j kept m n f q e k (Some r) h =
        let y = and_parts (nat_eq r.0.0 q) (is_live t (g.entry f) k && returns_ok g t j kept m n (g.exit f) e r.1 t.live) h in
        let z = and_parts (is_live t (g.entry f) k) (returns_ok g t j kept m n (g.exit f) e r.1 t.live) y.1 in
        (r.1, both (nat_eq r.0.0 q) (nat_eq r.1 r.1) y.0 (eq-eqb r.1 r.1 refl), z.0, z.1)

    call_some : (j : ℕ) (kept : Option ℕ) (m n f q e : ℕ) (o : Option IntoRow) → call_ok g t j kept m n f q e o ≡ true
        → (r : IntoRow) × (o ≡ Some r) × (enters g t j kept m n f q e r.callee.0 (slice_get t.mems r.callee.0) ≡ true)
    call_some j kept m n f q e None h = cc
    call_some j kept m n f q e (Some r) h = (r, refl, h)

    call_row : (split : Bool) (p j m n f q e : ℕ) → is_live t p m ≡ true → IsMeant m q e → slice_get g.spots p ≡ Some (call_spot split j f n)
        → call_ok g t j (kept_at split q) m n f q e (into_at t j split m) ≡ true
    call_row true p j m n f q e l s h = row_in p m q e (SplitCall j f n) l s h
    call_row false p j m n f q e l s h = row_in p m q e (CallSpot j f n) l s h

    returns_some : (j : ℕ) (kept : Option ℕ) (m n e promise q : ℕ) (o : Option (StateId × ℕ)) → returns_in g t j kept m n e promise o ≡ true → means_it o q promise ≡ true
        → back_leads t n (returned g.states kept q) e (back_at t j (is_some kept) m q) ≡ true
    returns_some j kept m n e promise q None h k = cc
    returns_some j kept m n e promise q (Some r) h k =
        let w = and_parts (nat_eq r.0.0 q) (nat_eq r.1 promise) k in
        subst (λ y. back_leads t n (returned g.states kept y) e (back_at t j (is_some kept) m y) ≡ true) (eqb-true r.0.0 q w.0)
        (or_parts (nat_eq r.1 promise) (back_leads t n (returned g.states kept r.0.0) e (back_at t j (is_some kept) m r.0.0)) h w.1)

    -- the way back of a memory that is live at the callee's exit
    way_back : (j : ℕ) (kept : Option ℕ) (m n exit e promise : ℕ) (rows : List (PosId × MemId)) (k q : ℕ) → returns_ok g t j kept m n exit e promise rows ≡ true
        → is_some (find (λ r. nat_eq r.0.0 exit && nat_eq r.1.0 k) rows) ≡ true → IsMeant k q promise → back_leads t n (returned g.states kept q) e (back_at t j (is_some kept) m q) ≡ true
    way_back j kept m n exit e promise [] k q h l s = cc
    way_back j kept m n exit e promise (r ∷ rows) k q h l s =
        let hs = and_parts (not (nat_eq r.0.0 exit) || returns_in g t j kept m n e promise (slice_get t.mems r.1.0)) (returns_ok g t j kept m n exit e promise rows) h in
        ⊎_elim
        (λ y.
        let w = and_parts (nat_eq r.0.0 exit) (nat_eq r.1.0 k) y in
        let i = or_parts (nat_eq r.0.0 exit) (returns_in g t j kept m n e promise (slice_get t.mems r.1.0)) hs.0 w.0 in
        returns_some j kept m n e promise q (slice_get t.mems k) (sym (ap (λ z. returns_in g t j kept m n e promise (slice_get t.mems z)) (eqb-true r.1.0 k w.1)) ∙ i) s)
        (λ y. way_back j kept m n exit e promise rows k q hs.1 y s)
        (found (nat_eq r.0.0 exit && nat_eq r.1.0 k) r (find (λ r. nat_eq r.0.0 exit && nat_eq r.1.0 k) rows) l)

    -- The environment's move has its memories, with which the next board is kept.
    abbrev Advances : Option (List ℕ) → Board → Type 0
    Advances o b = (ms : List ℕ) × (o ≡ Some ms) × Kept b ms

    -- a step within the top frame
    goes_on : (fn e : ℕ) (rets : List Ret) (raw : Frame) (frames next : List Frame) (kept : List (Option Caps)) (caps : Caps) (word : Word) (m : ℕ) (ms : List ℕ) (p q : ℕ)
        → Some (settle raw ∷ frames) ≡ Some next → At g.spots g.policy (g.exit fn) raw p → Means q word caps → (is_live t p m ≡ true) × IsMeant m q e → Ex e rets
        → Below fn e frames ms kept rets → KeptOn next caps word (begin g.policy next) kept (m ∷ ms)
    goes_on fn e rets raw frames next kept caps word m ms p q en a h l x b =
        subst (λ s. KeptOn s caps word (begin g.policy s) kept (m ∷ ms)) (same_Some (settle raw ∷ frames) next en)
        (fn, e, rets, (p, q, rests Means g.spots g.policy (g.exit fn) (settle raw) caps word _ p q (lands_at Means g.spots g.policy (g.exit fn) raw caps word p q a h), l.0, l.1), x, b)

    -- a front that leaves all else alone
    quiet_on : (fn e : ℕ) (rets : List Ret) (i : Item) (is raw : Frame) (frames next : List Frame) (kept : List (Option Caps)) (caps : Caps) (word : Word) (m : ℕ) (ms : List ℕ) (p q : ℕ)
        (way : Way) (by : Move)
        → IsQuiet i is → after i way is ≡ Some raw → pass plan ((i ∷ is) ∷ frames) way ≡ Some next → At g.spots g.policy (g.exit fn) raw p → Means q word caps → is_live t p m ≡ true
        → IsMeant m q e → Ex e rets → Below fn e frames ms kept rets
        → Advances (step_memories t false by ((i ∷ is) ∷ frames) kept (m ∷ ms))
        (landed problem None (record { stack = (i ∷ is) ∷ frames; kept = kept; caps = caps; word = word; phase = Free }) way next)
    quiet_on fn e rets i is raw frames next kept caps word m ms p q way by quiet ea en a h l s x b =
        let en' : Some (settle raw ∷ frames) ≡ Some next = sym (ap (option_map (λ n. settle n ∷ frames)) ea) ∙ sym (quiet.passes plan frames way) ∙ en in
        let new =
        goes_on fn e rets raw frames next kept caps (word ++ letters_in (i ∷ is) caps) m ms p q en' a (no_letter Means q word (letters_in (i ∷ is) caps) caps (quiet.says caps) h) (l, s) x b in
        let new2 = subst (λ c. KeptOn next c (word ++ letters_in (i ∷ is) caps) (begin g.policy next) kept (m ∷ ms)) (sym (quiet.holds g.policy frames kept way caps)) new in
        let new3 =
        subst (λ k. KeptOn next (caps_after g.policy ((i ∷ is) ∷ frames) kept way caps) (word ++ letters_in (i ∷ is) caps) (begin g.policy next) k (m ∷ ms))
        (sym (quiet.keeps None frames kept)) new2 in
        (m ∷ ms, quiet.remembers t false by frames kept (m ∷ ms), new3)

    no_way : (i : Item) (is : Frame) (frames next : List Frame) (way : Way) → IsQuiet i is → after i way is ≡ None → pass plan ((i ∷ is) ∷ frames) way ≡ Some next → ⊥
    no_way i is frames next way quiet ea en = none-some next (sym (ap (option_map (λ n. settle n ∷ frames)) ea) ∙ sym (quiet.passes plan frames way) ∙ en)

    -- a call in either mode, at p
    call_on : (split : Bool) (fn e : ℕ) (rets : List Ret) (at j : ℕ) (callee : Callee) (is : Frame) (frames next : List Frame) (kept : List (Option Caps)) (caps : Caps) (word : Word) (m : ℕ)
        (ms : List ℕ) (p q n : ℕ) (phase : Phase) (o : Option Routine)
        → slice_get g.spots p ≡ Some (call_spot split j callee.number n) → At g.spots g.policy (g.exit fn) is n → Means q word caps → is_live t p m ≡ true → IsMeant m q e
        → slice_get plan.routines callee.number ≡ o → option_map (λ frame. frame ∷ ((Todo (Call at j callee) ∷ is) ∷ frames)) (option_map (new_frame callee.number) o) ≡ Some next → Ex e rets
        → Below fn e frames ms kept rets
        → Advances (called_with t split j (m ∷ ms)) (landed problem (mode_of split caps) (record {
          stack = (Todo (Call at j callee) ∷ is) ∷ frames;
          kept = kept;
          caps = caps;
          word = word;
          phase = phase;
        }) OnWay next)
    call_on split fn e rets at j callee is frames next kept caps word m ms p q n phase None es a h l s eo en x b = absurd (none-some next en)
    call_on split fn e rets at j callee is frames next kept caps word m ms p q n phase (Some r) es a h l s eo en x b =
        let k = call_some j (kept_at split q) m n callee.number q e (into_at t j split m) (call_row split p j m n callee.number q e l s es) in
        let d = entered j (kept_at split q) m n callee.number q e k.0.callee.0 (slice_get t.mems k.0.callee.0) k.2 in
        let ret : Ret = record { back = n; kept = kept_at split q } in
        let back : Resumes Means g callee.number fn (Todo (Call at j callee) ∷ is) (mode_of split caps) ret =
        record { at = at; seam = j; callee = callee; rest = is; is_call = refl; calls = refl; after_it = a; keeps_it = mode_kept Means split q word caps h } in
        let w : Waits Means g t callee.number d.0 fn e m (Todo (Call at j callee) ∷ is) (mode_of split caps) ret = record { resumes = back; ways = d.3 } in
        let x2 = hands p m q e j callee.number n d.0 split k.0 rets word caps h l s es k.1 d.1 x in
        let st = enters_at Means g right plan callee.number r caps (word ++ []) q (laid.functions callee.number r eo) (no_letter Means q word [] caps refl h) in
        let new : KeptOn (new_frame callee.number r ∷ ((Todo (Call at j callee) ∷ is) ∷ frames)) caps (word ++ []) (onward 0 (primitives g.policy false))
        (mode_of split caps ∷ kept) (k.0.callee.0 ∷ (m ∷ ms)) = (
          callee.number,
          d.0,
          ret ∷ rets,
          (
            g.entry callee.number,
            q,
            rests Means g.spots g.policy (g.exit callee.number) (new_frame callee.number r) caps (word ++ [])
                (onward 0 (primitives g.policy false)) (g.entry callee.number) q st,
            d.2,
            d.1,
          ),
          x2,
          (fn, e, w, x, b),
        ) in (
          k.0.callee.0 ∷ (m ∷ ms),
          ap (option_map (λ callee. callee ∷ (m ∷ ms))) (ap (option_and_then (λ r. mem_in t r.callee)) k.1 ∙ found_mem k.0.callee q d.0 d.1),
          subst
              (λ s. KeptOn s caps (word ++ []) (begin g.policy s) (mode_of split caps ∷ kept) (k.0.callee.0 ∷ (m ∷ ms)))
              (same_Some (new_frame callee.number r ∷ ((Todo (Call at j callee) ∷ is) ∷ frames)) next en) new,
        )

    -- a return
    return_on : (fn e : ℕ) (f : ℕ) (is frame : Frame) (frames next : List Frame) (k : Option Caps) (kept : List (Option Caps)) (caps : Caps) (word : Word) (m m2 : ℕ) (ms : List ℕ) (p q : ℕ)
        (ret : Ret) (rets : List Ret)
        → p ≡ g.exit fn → Means q word caps → is_live t p m ≡ true → IsMeant m q e → (fn2 e2 : ℕ) → Waits Means g t fn e fn2 e2 m2 frame k ret → Ex e2 rets → Below fn2 e2 frames ms kept rets
        → popped (frame ∷ frames) ≡ Some next
        → Advances (return_memories t (is_some k) (frame ∷ frames) (m ∷ (m2 ∷ ms)))
        (landed problem None (record { stack = (End f ∷ is) ∷ (frame ∷ frames); kept = k ∷ kept; caps = caps; word = word; phase = Free }) OnWay next)
    return_on fn e f is frame frames next k kept caps word m m2 ms p q ret rets ep h l s fn2 e2 w x b en =
        let r = w.resumes in
        let en' : Some (settle r.rest ∷ frames) ≡ Some next = sym (ap (λ fr. popped (fr ∷ frames)) r.is_call) ∙ en in
        let l' = subst (λ y. is_live t y m ≡ true) ep l in
        let to = back_some ret.back (returned g.states ret.kept q) e2 (back_at t r.seam (is_some ret.kept) m2 q) (way_back r.seam ret.kept m2 ret.back (g.exit fn) e2 e t.live m q w.ways l' s) in
        let e1 : returned_with t (is_some k) frame m2 (state_of t m) ≡ option_and_then (λ r. mem_in t r.after) (back_at t r.seam (is_some k) m2 q) =
        ap₂ (λ fr o. returned_with t (is_some k) fr m2 o) r.is_call (state_meant m q e s) in
        let e2' : returned_with t (is_some k) frame m2 (state_of t m) ≡ Some to.0 =
        e1 ∙ ap (λ y. option_and_then (λ r. mem_in t r.after) (back_at t r.seam y m2 q)) (same_kept Means k ret.kept r.keeps_it) ∙ to.1 in
        let means = given_is Means g right k kept ret.kept q word caps r.keeps_it h in
        let new =
        goes_on fn2 e2 rets r.rest frames next kept (given_back (k ∷ kept) caps) (word ++ []) to.0 ms ret.back (returned g.states ret.kept q) en' r.after_it
        (no_letter Means (returned g.states ret.kept q) word [] (given_back (k ∷ kept) caps) refl means) (leads_to ret.back to.0 (returned g.states ret.kept q) e2 to.2) x b in
        (to.0 ∷ ms, ap (option_map (λ after. after ∷ ms)) e2', new)

    end_on : (fn e : ℕ) (f : ℕ) (is : Frame) (frames next : List Frame) (kept : List (Option Caps)) (caps : Caps) (word : Word) (m : ℕ) (ms : List ℕ) (p q : ℕ) (rets : List Ret)
        → p ≡ g.exit fn → Means q word caps → is_live t p m ≡ true → IsMeant m q e → Below fn e frames ms kept rets → popped frames ≡ Some next
        → Advances (return_memories t (was_split kept) frames (m ∷ ms)) (landed problem None (record { stack = (End f ∷ is) ∷ frames; kept = kept; caps = caps; word = word; phase = Free }) OnWay next)
    end_on fn e f is [] next kept caps word m ms p q rets ep h l s b en =
        (m ∷ ms, refl, subst (λ st. KeptOn st (given_back kept caps) (word ++ []) (begin g.policy st) (kept_after None ((End f ∷ is) ∷ []) kept) (m ∷ ms)) (same_Some [] next en) tt)
    end_on fn e f is (frame ∷ frames) next (k ∷ kept) caps word m (m2 ∷ ms) p q (ret ∷ rets) ep h l s b en =
        return_on fn e f is frame frames next k kept caps word m m2 ms p q ret rets ep h l s b.0 b.1 b.2 b.3 b.4 en
    end_on fn e f is (frame ∷ frames) next kept caps word m [] p q rets ep h l s b en = absurd b
    end_on fn e f is (frame ∷ frames) next [] caps word m (m2 ∷ ms) p q rets ep h l s b en = absurd b
    end_on fn e f is (frame ∷ frames) next (k ∷ kept) caps word m (m2 ∷ ms) p q [] ep h l s b en = absurd b

    label_on : (fn e : ℕ) (rets : List Ret) (at mark j l : ℕ) (s : Stm) (is : Frame) (frames next : List Frame) (kept : List (Option Caps)) (caps : Caps) (word : Word) (m : ℕ) (ms : List ℕ)
        (p q n : ℕ)
        → slice_get g.spots p ≡ Some (LabelSpot j l n) → At g.spots g.policy (g.exit fn) (Todo s ∷ is) n → Means q word caps → is_live t p m ≡ true → IsMeant m q e → Ex e rets
        → Below fn e frames ms kept rets → Some (settle (Todo s ∷ is) ∷ frames) ≡ Some next
        → Advances (top_by (λ m. option_and_then (λ r. mem_in t r.after) (after_at t.ats j m)) (m ∷ ms))
        (landed problem None (record { stack = (Todo (Label at mark j l s) ∷ is) ∷ frames; kept = kept; caps = caps; word = word; phase = Free }) OnWay next)
    label_on fn e rets at mark j l s is frames next kept caps word m ms p q n es a h lv mt x b en =
        let ro = and_parts (not (g.states.bad q l)) (row_leads t n (g.states.lettered q l) e (after_at t.ats j m)) (row_in p m q e (LabelSpot j l n) lv mt es) in
        let fine : IsBad g.policy (word ++ letter_of l caps ∷ []) → ⊥ = λ y. not_true (g.states.bad q l) ro.0 ((right.bad q word caps l (p, j, n, es) h).1 y) in
        let to = row_some n (g.states.lettered q l) e (after_at t.ats j m) ro.1 in
        let new =
        goes_on fn e rets (Todo s ∷ is) frames next kept caps (word ++ letter_of l caps ∷ []) to.0 ms n (g.states.lettered q l) en a (right.lettered q word caps l (p, j, n, es) h fine)
        (leads_to n to.0 (g.states.lettered q l) e to.2) x b in
        (to.0 ∷ ms, ap (option_map (λ new. new ∷ ms)) to.1, new)

    close_on : (fn e : ℕ) (rets : List Ret) (at j d : ℕ) (is : Frame) (frames next : List Frame) (kept : List (Option Caps)) (caps : Caps) (word : Word) (m : ℕ) (ms : List ℕ) (p q n : ℕ)
        → d < length g.policy.descriptors → slice_get g.spots p ≡ Some (CloseSpot j d n) → At g.spots g.policy (g.exit fn) is n → Means q word caps → is_live t p m ≡ true → IsMeant m q e
        → Ex e rets → Below fn e frames ms kept rets → Some (settle is ∷ frames) ≡ Some next
        → Advances (top_by (λ m. option_and_then (λ r. mem_in t r.after) (after_at t.closed j m)) (m ∷ ms))
        (landed problem None (record { stack = (Todo (Close at j d) ∷ is) ∷ frames; kept = kept; caps = caps; word = word; phase = Free }) OnWay next)
    close_on fn e rets at j d is frames next kept caps word m ms p q n lt es a h lv mt x b en =
        let to = row_some n (g.states.closed q d) e (after_at t.closed j m) (row_in p m q e (CloseSpot j d n) lv mt es) in
        let new =
        goes_on fn e rets is frames next kept (closed caps d) (word ++ []) to.0 ms n (g.states.closed q d) en a
        (no_letter Means (g.states.closed q d) word [] (closed caps d) refl (right.closed q word caps d (inr (p, j, n, es)) lt h)) (leads_to n to.0 (g.states.closed q d) e to.2) x b in
        (to.0 ∷ ms, ap (option_map (λ new. new ∷ ms)) to.1, new)

    -- an open, in both ways
    open_on : (fn e : ℕ) (rets : List Ret) (at j d : ℕ) (is : Frame) (frames next : List Frame) (kept : List (Option Caps)) (caps : Caps) (word : Word) (m : ℕ) (ms : List ℕ) (p q n : ℕ) (way : Way)
        → d < length g.policy.descriptors → slice_get g.spots p ≡ Some (OpenSpot j d n) → At g.spots g.policy (g.exit fn) is n → Means q word caps → is_live t p m ≡ true → IsMeant m q e
        → Ex e rets → Below fn e frames ms kept rets → pass plan ((Todo (Open at j d) ∷ is) ∷ frames) way ≡ Some next
        → Advances (step_memories t false (move_of way) ((Todo (Open at j d) ∷ is) ∷ frames) kept (m ∷ ms))
        (landed problem None (record { stack = (Todo (Open at j d) ∷ is) ∷ frames; kept = kept; caps = caps; word = word; phase = Free }) way next)
    open_on fn e rets at j d is frames next kept caps word m ms p q n OpenedWay lt es a h lv mt x b en =
        let to = open_some n (g.states.opened q d) (g.states.closed q d) e (open_at t j m) (row_in p m q e (OpenSpot j d n) lv mt es) in
        let after = with_opened caps d (slice_get g.policy.descriptors d) in
        let new =
        goes_on fn e rets is frames next kept after (word ++ []) to.0.opened.0 ms n (g.states.opened q d) en a
        (no_letter Means (g.states.opened q d) word [] after refl (right.opened q word caps d (p, j, n, es) lt h)) (leads_to n to.0.opened.0 (g.states.opened q d) e to.2) x b in
        (to.0.opened.0 ∷ ms, ap (option_map (λ new. new ∷ ms)) (ap (option_and_then (λ r. mem_in t r.opened)) to.1 ∙ led_mem n (g.states.opened q d) e to.0.opened to.2), new)
    open_on fn e rets at j d is frames next kept caps word m ms p q n FailedWay lt es a h lv mt x b en =
        let to = open_some n (g.states.opened q d) (g.states.closed q d) e (open_at t j m) (row_in p m q e (OpenSpot j d n) lv mt es) in
        let new =
        goes_on fn e rets is frames next kept (closed caps d) (word ++ []) to.0.failed.0 ms n (g.states.closed q d) en a
        (no_letter Means (g.states.closed q d) word [] (closed caps d) refl (right.closed q word caps d (inl (p, j, n, es)) lt h)) (leads_to n to.0.failed.0 (g.states.closed q d) e to.3) x b in
        (to.0.failed.0 ∷ ms, ap (option_map (λ new. new ∷ ms)) (ap (option_and_then (λ r. mem_in t r.failed)) to.1 ∙ led_mem n (g.states.closed q d) e to.0.failed to.3), new)
    open_on fn e rets at j d is frames next kept caps word m ms p q n OnWay lt es a h lv mt x b en = absurd (none-some next en)
    open_on fn e rets at j d is frames next kept caps word m ms p q n LeftWay lt es a h lv mt x b en = absurd (none-some next en)
    open_on fn e rets at j d is frames next kept caps word m ms p q n RightWay lt es a h lv mt x b en = absurd (none-some next en)

    abbrev Steps : ℕ → ℕ → Frame → Type 0
    Steps fn p frame =
        (e : ℕ) (rets : List Ret) (frames next : List Frame) (kept : List (Option Caps)) (caps : Caps) (word : Word) (m : ℕ) (ms : List ℕ) (q : ℕ) (way : Way) → pass plan (frame ∷ frames)
        way ≡ Some next → Means q word caps → is_live t p m ≡ true → IsMeant m q e → Ex e rets → Below fn e frames ms kept rets → Advances
        (step_memories t false (move_of way) (frame ∷ frames) kept (m ∷ ms)) (landed problem None (record { stack = frame ∷ frames; kept = kept; caps = caps; word = word; phase = Free }) way next)

    free_on : (fn p : ℕ) (frame : Frame) → Front g.spots g.policy (g.exit fn) p frame → Steps fn p frame
    free_on fn p _ (is_step {i} {is} raw {n} quiet ways es a) e rets frames next kept caps word m ms q way en h l s x b = by way (ways way) en
      where
        on : is_live t n m ≡ true
        on = row_in p m q e (Step n) l s es

        by : (way : Way) → after i way is ≡ on_only raw way → pass plan ((i ∷ is) ∷ frames) way ≡ Some next
            → Advances (step_memories t false (move_of way) ((i ∷ is) ∷ frames) kept (m ∷ ms))
            (landed problem None (record { stack = (i ∷ is) ∷ frames; kept = kept; caps = caps; word = word; phase = Free }) way next)
        by OnWay ea en = quiet_on fn e rets i is raw frames next kept caps word m ms n q OnWay On quiet ea en a h on s x b
        by LeftWay ea en = absurd (no_way i is frames next LeftWay quiet ea en)
        by RightWay ea en = absurd (no_way i is frames next RightWay quiet ea en)
        by OpenedWay ea en = absurd (no_way i is frames next OpenedWay quiet ea en)
        by FailedWay ea en = absurd (no_way i is frames next FailedWay quiet ea en)
    free_on fn p _ (is_branch {i} {is} left right' {m = n} {n = n'} quiet ways es a a') e rets frames next kept caps word m ms q way en h l s x b = by way (ways way) en
      where
        on : (is_live t n m ≡ true) × (is_live t n' m ≡ true)
        on = and_parts (is_live t n m) (is_live t n' m) (row_in p m q e (Branch n n') l s es)

        by : (way : Way) → after i way is ≡ either left right' way → pass plan ((i ∷ is) ∷ frames) way ≡ Some next
            → Advances (step_memories t false (move_of way) ((i ∷ is) ∷ frames) kept (m ∷ ms))
            (landed problem None (record { stack = (i ∷ is) ∷ frames; kept = kept; caps = caps; word = word; phase = Free }) way next)
        by LeftWay ea en = quiet_on fn e rets i is left frames next kept caps word m ms n q LeftWay Left quiet ea en a h on.0 s x b
        by RightWay ea en = quiet_on fn e rets i is right' frames next kept caps word m ms n' q RightWay Right quiet ea en a' h on.1 s x b
        by OnWay ea en = absurd (no_way i is frames next OnWay quiet ea en)
        by OpenedWay ea en = absurd (no_way i is frames next OpenedWay quiet ea en)
        by FailedWay ea en = absurd (no_way i is frames next FailedWay quiet ea en)
    free_on fn p _ (is_label {at} {mark} {j} {l} {s} {is} {n} es a) e rets frames next kept caps word m ms q OnWay en h lv mt x b =
        label_on fn e rets at mark j l s is frames next kept caps word m ms p q n es a h lv mt x b en
    free_on fn p _ (is_open {at} {j} {d} {is} {n} lt es a) e rets frames next kept caps word m ms q way en h l s x b =
        open_on fn e rets at j d is frames next kept caps word m ms p q n way lt es a h l s x b en
    free_on fn p _ (is_close {at} {j} {d} {is} {n} lt es a) e rets frames next kept caps word m ms q OnWay en h l s x b =
        close_on fn e rets at j d is frames next kept caps word m ms p q n lt es a h l s x b en
    free_on fn p _ (is_call {at} {j} {callee} {is} {n} es a) e rets frames next kept caps word m ms q OnWay en h l s x b =
        call_on false fn e rets at j callee is frames next kept caps word m ms p q n Free (slice_get plan.routines callee.number) es.0 a h l s refl en x b
    free_on fn p _ (is_end {f} {is} es ep) e rets frames next kept caps word m ms q OnWay en h l s x b = end_on fn e f is frames next kept caps word m ms p q rets ep h l s b en
    free_on fn p _ _ e rets frames next kept caps word m ms q way en h l s x b = absurd (none-some next en)

    pub free_advances : (stack : List Frame) (kept : List (Option Caps)) (caps : Caps) (word : Word) (ms : List ℕ) (way : Way) (next : List Frame) → KeptOn stack caps word Free kept ms
        → pass plan stack way ≡ Some next
        → Advances (step_memories t false (move_of way) stack kept ms) (landed problem None (record { stack = stack; kept = kept; caps = caps; word = word; phase = Free }) way next)
    free_advances [] kept caps word ms way next i en = absurd i
    free_advances (frame ∷ frames) kept caps word [] way next i en = absurd i
    free_advances (frame ∷ frames) kept caps word (m ∷ ms) way next i en =
        let w = i.3 in
        free_on i.0 w.0 frame (front_of g.spots g.policy (g.exit i.0) frame w.0 w.2.0 w.2.2) i.1 i.2 frames next kept caps word m ms w.1 way en w.2.1 w.3 w.4 i.4 i.5

    pub split_advances : (stack : List Frame) (kept : List (Option Caps)) (caps : Caps) (word : Word) (ms : List ℕ) (way : Way) (next : List Frame) → KeptOn stack caps word FreeSplit kept ms
        → pass plan stack way ≡ Some next
        → Advances (step_memories t true (move_of way) stack kept ms) (landed problem (Some caps) (record { stack = stack; kept = kept; caps = caps; word = word; phase = FreeSplit }) way next)
    split_advances [] kept caps word ms way next i en = absurd i
    split_advances (frame ∷ frames) kept caps word [] way next i en = absurd i
    split_advances ((Todo (Call at j callee) ∷ is) ∷ frames) kept caps word (m ∷ ms) OnWay next i en =
        let w = i.3 in
        let f = w.2.1 in
        call_on true i.0 i.1 i.2 at j callee is frames next kept caps word m ms w.0 w.1 f.2.0 FreeSplit (slice_get plan.routines callee.number) (ap (slice_get g.spots) w.2.3 ∙ f.2.1.1 w.2.2)
        (f.0, f.1, f.2.2) w.2.4 w.3 w.4 refl en i.4 i.5
    split_advances ((Todo (Call at j callee) ∷ is) ∷ frames) kept caps word (m ∷ ms) way next i en = absurd (none-some next en)
    split_advances (_ ∷ frames) kept caps word (m ∷ ms) way next i en = absurd i.3.2.2

    -- what is asked, by what a grant leads to
    abbrev AskedOk : ℕ → ℕ → ℕ → ℕ → ℕ → ℕ → Primitive → List Ret → Type 0
    AskedOk p m q e j i a rets = let c = past_asked g p q a rets in asked_ok (g.states.may_grant q a) (refuses_in g q a) (can_stop_in g q a) t c.pos (p + 1) c.state q e (try_at t j i m) ≡ true

    pub asked_row : (p m q e j i : ℕ) (a : Primitive) (rets : List Ret) → row_ok_in g t p m q e (Some (AskedSpot j i a)) ≡ true → AskedOk p m q e j i a rets
    asked_row p m q e j i Split rets h = h
    asked_row p m q e j i a rets h = h

    abbrev asked_board : Frame → List Frame → List (Option Caps) → Caps → Word → ℕ → Primitive → List Primitive → Board
    asked_board frame frames kept caps word i a later = record { stack = frame ∷ frames; kept = kept; caps = caps; word = word; phase = Asked i a later }

    grant_on : (fn e : ℕ) (rets : List Ret) (frame : Frame) (frames : List Frame) (kept : List (Option Caps)) (caps : Caps) (word : Word) (i : ℕ) (a : Primitive) (later : List Primitive)
        (m : ℕ) (ms : List ℕ) (p q : ℕ)
        → let next = granted (asked_board frame frames kept caps word i a later) i a later in StandsIn Means g.spots g.policy (g.exit fn) frame next.caps next.word next.phase p q
        → (is_live t p m ≡ true) × IsMeant m q e → Ex e rets → Below fn e frames ms kept rets → Kept next (m ∷ ms)
    grant_on fn e rets frame frames kept caps word i Split later m ms p q st l x b = (fn, e, rets, (p, q, st, l.0, l.1), x, b)
    grant_on fn e rets frame frames kept caps word i a later m ms p q st l x b =
        (fn, e, rets, (p, q, rests Means g.spots g.policy (g.exit fn) frame _ word (onward (suc i) later) p q st, l.0, l.1), x, b)

    asked_advances : (frame : Frame) (frames : List Frame) (kept : List (Option Caps)) (caps : Caps) (word : Word) (i : ℕ) (a : Primitive) (later : List Primitive) (m : ℕ) (ms : List ℕ)
        (by : Move) (next : Board)
        → Kept (asked_board frame frames kept caps word i a later) (m ∷ ms) → answered problem (asked_board frame frames kept caps word i a later) i a later by ≡ Some next
        → Advances (memories problem t (asked_board frame frames kept caps word i a later) (m ∷ ms) (Asked i a later) by) next
    asked_advances frame frames kept caps word i a later m ms Grant next iv en =
        let w = iv.3 in
        let p = w.0 in
        let q = w.1 in
        let s = w.2.1 in
        let c = past_asked g p q a iv.2 in
        let y = cond_some (may_grant caps a) (granted (asked_board frame frames kept caps word i a later) i a later) next en in
        let row = asked_row p m q iv.1 s.1 i a iv.2 (row_in p m q iv.1 (AskedSpot s.1 i a) w.3 w.4 (ap (slice_get g.spots) w.2.2 ∙ s.4.1)) in
        let to =
        granted_some (g.states.may_grant q a) (refuses_in g q a) (can_stop_in g q a) c.pos (p + 1) c.state q iv.1 (try_at t s.1 i m) row
        (grants_is Means g right (g.exit iv.0) frame caps word i a later w.2.0 q s w.2.3 ∙ y.0) in
        let st = granted_at Means g right (g.exit iv.0) (asked_board frame frames kept caps word i a later) frame i a later w.2.0 p q iv.2 s w.2.2 w.2.3 y.0 in
        let new = grant_on iv.0 iv.1 iv.2 frame frames kept caps word i a later to.0 ms c.pos c.state st (leads_to c.pos to.0 c.state iv.1 to.2) iv.4 iv.5 in
        (to.0 ∷ ms, ap (option_map (λ new. new ∷ ms)) (ap (λ o. option_and_then (λ r. option_and_then (mem_in t) r.granted) (try_in t o i m)) s.2 ∙ to.1), subst (λ b. Kept b (to.0 ∷ ms)) y.1 new)
    asked_advances frame frames kept caps word i a later m ms Refuse next iv en = by (can_stop g.policy caps a) refl
      where
        b : Board
        b = asked_board frame frames kept caps word i a later

        y : (may_refuse g.policy caps a ≡ true) × (refused problem b i a later ≡ next)
        y = cond_some (may_refuse g.policy caps a) (refused problem b i a later) next en

        by : (halts : Bool) → can_stop g.policy caps a ≡ halts → Advances (cond (can_stop g.policy caps a) (Some (m ∷ ms)) (top_by (λ m. refused_with t (try_of t b i m)) (m ∷ ms))) next
        by true e =
            let w = iv.3 in
            let new : Kept (record b { phase = Refused i a later }) (m ∷ ms) = (iv.0, iv.1, iv.2, (w.0, w.1, (w.2.0, w.2.1, w.2.2, w.2.3, e), w.3, w.4), iv.4, iv.5) in
            let en' : record b { phase = Refused i a later } ≡ next = ap (λ halts. record b { phase = cond halts (Refused i a later) (onward (suc i) later) }) (sym e) ∙ y.1 in
            (m ∷ ms, ap (λ halts. cond halts (Some (m ∷ ms)) (top_by (λ m. refused_with t (try_of t b i m)) (m ∷ ms))) e, subst (λ b. Kept b (m ∷ ms)) en' new)
        by false e =
            let w = iv.3 in
            let p = w.0 in
            let q = w.1 in
            let s = w.2.1 in
            let c = past_asked g p q a iv.2 in
            let row = asked_row p m q iv.1 s.1 i a iv.2 (row_in p m q iv.1 (AskedSpot s.1 i a) w.3 w.4 (ap (slice_get g.spots) w.2.2 ∙ s.4.1)) in
            let may = refuses_is Means g right (g.exit iv.0) frame caps word i a later w.2.0 q s w.2.3 ∙ y.0 in
            let halts = stops_is Means g right (g.exit iv.0) frame caps word i a later w.2.0 q s w.2.3 ∙ e in
            let to = refused_some (g.states.may_grant q a) (refuses_in g q a) (can_stop_in g q a) c.pos (p + 1) c.state q iv.1 (try_at t s.1 i m) row (ap₂ (λ y z. y && not z) may halts) in
            let st = refused_at Means g.spots g.policy (g.exit iv.0) frame caps word i a later w.2.0 p q s w.2.2 w.2.3 in
            let l = leads_to (p + 1) to.0 q iv.1 to.2 in
            let new : Kept (passed_by b i later) (to.0 ∷ ms) =
            (iv.0, iv.1, iv.2, (p + 1, q, rests Means g.spots g.policy (g.exit iv.0) frame caps word (onward (suc i) later) (p + 1) q st, l.0, l.1), iv.4, iv.5) in
            let en' : passed_by b i later ≡ next = ap (λ halts. record b { phase = cond halts (Refused i a later) (onward (suc i) later) }) (sym e) ∙ y.1 in (
              to.0 ∷ ms,
              ap (λ halts. cond halts (Some (m ∷ ms)) (top_by (λ m. refused_with t (try_of t b i m)) (m ∷ ms))) e ∙ ap (option_map (λ new. new ∷ ms))
                  (ap (λ o. refused_with t (try_in t o i m)) s.2 ∙ to.1),
              subst (λ b. Kept b (to.0 ∷ ms)) en' new,
            )
    asked_advances frame frames kept caps word i a later m ms _ next iv en = absurd (none-some next en)

    advances_in : (stack : List Frame) (kept : List (Option Caps)) (caps : Caps) (word : Word) (phase : Phase) (ms : List ℕ) (by : Move) (next : Board)
        → let b : Board = record { stack = stack; kept = kept; caps = caps; word = word; phase = phase } in KeptOn stack caps word phase kept ms → turn_of phase ≡ Some Environment
        → moved problem b phase by ≡ Some next → Advances (memories problem t b ms phase by) next
    advances_in stack kept caps word Free ms by next i e en =
        let b : Board = record { stack = stack; kept = kept; caps = caps; word = word; phase = Free } in
        let w = step_of problem None b next by (way_of by) refl en in
        subst (λ y. Advances (step_memories t false y stack kept ms) next) w.1
        (subst (λ y. Advances (step_memories t false (move_of w.0) stack kept ms) y) w.2.2 (free_advances stack kept caps word ms w.0 w.2.0 i w.2.1))
    advances_in stack kept caps word FreeSplit ms by next i e en =
        let b : Board = record { stack = stack; kept = kept; caps = caps; word = word; phase = FreeSplit } in
        let w = step_of problem (Some caps) b next by (way_of by) refl en in
        subst (λ y. Advances (step_memories t true y stack kept ms) next) w.1
        (subst (λ y. Advances (step_memories t true (move_of w.0) stack kept ms) y) w.2.2 (split_advances stack kept caps word ms w.0 w.2.0 i w.2.1))
    advances_in [] kept caps word (Asked n a later) ms by next i e en = absurd i
    advances_in (frame ∷ frames) kept caps word (Asked n a later) [] by next i e en = absurd i
    advances_in (frame ∷ frames) kept caps word (Asked n a later) (m ∷ ms) by next i e en = asked_advances frame frames kept caps word n a later m ms by next i en
    advances_in stack kept caps word (Visit n a later) ms by next i e en = let w = same_Some _ _ e in cc
    advances_in stack kept caps word (Refused n a later) ms by next i e en = let w = same_Some _ _ e in cc
    advances_in stack kept caps word Over ms by next i e en = absurd (none-some _ e)

    pub advances : (b : Board) (ms : List ℕ) (by : Move) (next : Board) → Kept b ms → turn_of b.phase ≡ Some Environment → moved problem b b.phase by ≡ Some next
        → Advances (memories problem t b ms b.phase by) next
    advances b ms by next i e en = advances_in b.stack b.kept b.caps b.word b.phase ms by next i e en

    skipped : (f : ℕ → Bool) (b : Bool) (u v m k : ℕ) → f (cond b u v) ≡ true → stays_unless b m ≡ Some k → (f v ≡ true) × (m ≡ k)
    skipped f true u v m k h e = absurd (none-some k e)
    skipped f false u v m k h e = (h, same_Some m k e)

    tried : (f : ℕ → Bool) (b : Bool) (u v m k : ℕ) → f (cond b u v) ≡ true → stays_where b m ≡ Some k → (f u ≡ true) × (m ≡ k)
    tried f true u v m k h e = (h, same_Some m k e)
    tried f false u v m k h e = absurd (none-some k e)

    top_is : (f : ℕ → Option ℕ) (m : ℕ) (ms ns : List ℕ) (o : Option ℕ) → f m ≡ o → option_map (λ new. new ∷ ms) o ≡ Some ns → (k : ℕ) × (f m ≡ Some k) × (k ∷ ms ≡ ns)
    top_is f m ms ns None eo e = absurd (none-some ns e)
    top_is f m ms ns (Some k) eo e = (k, eo, same_Some (k ∷ ms) ns e)

    visit_keeps : (frame : Frame) (frames : List Frame) (kept : List (Option Caps)) (caps : Caps) (word : Word) (i : ℕ) (a : Primitive) (later : List Primitive) (m : ℕ) (ms ns : List ℕ)
        (by : Move) (next : Board)
        → let b : Board = record { stack = frame ∷ frames; kept = kept; caps = caps; word = word; phase = Visit i a later } in Kept b (m ∷ ms)
        → moved problem b (Visit i a later) by ≡ Some next → memories problem t b (m ∷ ms) (Visit i a later) by ≡ Some ns → Kept next ns
    visit_keeps frame frames kept caps word i a later m ms ns Skip next iv en em =
        let w = iv.3 in
        let s = w.2.0 in
        let y = top_is (λ m. stays_unless (is_some (try_in t (seam_in frame) i m)) m) m ms ns (stays_unless (is_some (try_in t (seam_in frame) i m)) m) refl em in
        let row = row_in w.0 m w.1 iv.1 (VisitSpot s.1 i a) w.3 w.4 s.4.0 in
        let f = subst (λ o. stays_unless (is_some (try_in t o i m)) m ≡ Some y.0) s.2 y.1 in
        let k = skipped (λ p. is_live t p m) (is_some (try_at t s.1 i m)) (w.0 + 1) (w.0 + 2) m y.0 row f in
        let st = stage_at Means g.spots g.policy (g.exit iv.0) frame caps word (suc i) later (w.0 + 2) w.1 (next_stage g.spots g.policy (g.exit iv.0) frame i a later w.0 s) w.2.1 in
        let new : KeptOn (frame ∷ frames) caps word (onward (suc i) later) kept (m ∷ ms) =
        (iv.0, iv.1, iv.2, (w.0 + 2, w.1, rests Means g.spots g.policy (g.exit iv.0) frame caps word (onward (suc i) later) (w.0 + 2) w.1 st, k.0, w.4), iv.4, iv.5) in
        subst (λ z. Kept z ns) (same_Some _ next en) (subst (λ z. KeptOn (frame ∷ frames) caps word (onward (suc i) later) kept z) (ap (λ n. n ∷ ms) k.1 ∙ y.2) new)
    visit_keeps frame frames kept caps word i a later m ms ns Try next iv en em =
        let w = iv.3 in
        let s = w.2.0 in
        let y = top_is (λ m. stays_where (is_some (try_in t (seam_in frame) i m)) m) m ms ns (stays_where (is_some (try_in t (seam_in frame) i m)) m) refl em in
        let row = row_in w.0 m w.1 iv.1 (VisitSpot s.1 i a) w.3 w.4 s.4.0 in
        let f = subst (λ o. stays_where (is_some (try_in t o i m)) m ≡ Some y.0) s.2 y.1 in
        let k = tried (λ p. is_live t p m) (is_some (try_at t s.1 i m)) (w.0 + 1) (w.0 + 2) m y.0 row f in
        let new : KeptOn (frame ∷ frames) caps word (Asked i a later) kept (m ∷ ms) = (iv.0, iv.1, iv.2, (w.0 + 1, w.1, (w.0, s, refl, w.2.1), k.0, w.4), iv.4, iv.5) in
        subst (λ z. Kept z ns) (same_Some _ next en) (subst (λ z. KeptOn (frame ∷ frames) caps word (Asked i a later) kept z) (ap (λ n. n ∷ ms) k.1 ∙ y.2) new)
    visit_keeps frame frames kept caps word i a later m ms ns _ next iv en em = absurd (none-some next en)

    -- a refusal that a stop can answer is stopped at, or gone on from
    refused_keeps : (frame : Frame) (frames : List Frame) (kept : List (Option Caps)) (caps : Caps) (word : Word) (i : ℕ) (a : Primitive) (later : List Primitive) (m : ℕ) (ms ns : List ℕ)
        (by : Move) (next : Board)
        → let b : Board = record { stack = frame ∷ frames; kept = kept; caps = caps; word = word; phase = Refused i a later } in Kept b (m ∷ ms)
        → moved problem b (Refused i a later) by ≡ Some next → memories problem t b (m ∷ ms) (Refused i a later) by ≡ Some ns → Kept next ns
    refused_keeps frame frames kept caps word i a later m ms ns Skip next iv en em =
        let w = iv.3 in
        let p = w.0 in
        let q = w.1 in
        let s = w.2.1 in
        let c = past_asked g p q a iv.2 in
        let row = asked_row p m q iv.1 s.1 i a iv.2 (row_in p m q iv.1 (AskedSpot s.1 i a) w.3 w.4 (ap (slice_get g.spots) w.2.2 ∙ s.4.1)) in
        let halts = stops_is Means g right (g.exit iv.0) frame caps word i a later w.2.0 q s w.2.3 ∙ w.2.4 in
        let y = top_is (λ m. refused_with t (try_in t (seam_in frame) i m)) m ms ns (refused_with t (try_in t (seam_in frame) i m)) refl em in
        let f : refused_with t (try_at t s.1 i m) ≡ Some y.0 = sym (ap (λ o. refused_with t (try_in t o i m)) s.2) ∙ y.1 in
        let st = refused_at Means g.spots g.policy (g.exit iv.0) frame caps word i a later w.2.0 p q s w.2.2 w.2.3 in
        ⊎_elim (λ n. absurd (stops_without (try_at t s.1 i m) y.0 n f))
        (λ to.
        let e : to.0 ≡ y.0 = same_Some to.0 y.0 (sym to.1 ∙ f) in
        let l = leads_to (p + 1) to.0 q iv.1 to.2 in
        let new : KeptOn (frame ∷ frames) caps word (onward (suc i) later) kept (to.0 ∷ ms) =
        (iv.0, iv.1, iv.2, (p + 1, q, rests Means g.spots g.policy (g.exit iv.0) frame caps word (onward (suc i) later) (p + 1) q st, l.0, l.1), iv.4, iv.5) in
        subst (λ z. Kept z ns) (same_Some _ next en) (subst (λ z. KeptOn (frame ∷ frames) caps word (onward (suc i) later) kept z) (ap (λ n. n ∷ ms) e ∙ y.2) new))
        (halted_some (g.states.may_grant q a) (refuses_in g q a) (can_stop_in g q a) c.pos (p + 1) c.state q iv.1 (try_at t s.1 i m) row halts)
    refused_keeps frame frames kept caps word i a later m ms ns Stop next iv en em =
        let w = iv.3 in
        let y = top_is (λ m. stays_where (stops (try_in t (seam_in frame) i m)) m) m ms ns (stays_where (stops (try_in t (seam_in frame) i m)) m) refl em in
        let k = stayed (stops (try_in t (seam_in frame) i m)) m y.0 y.1 in
        let new : KeptOn (frame ∷ frames) caps word Over kept (m ∷ ms) = (iv.0, iv.1, iv.2, (w.0, w.1, tt, w.3, w.4), iv.4, iv.5) in
        subst (λ z. Kept z ns) (same_Some _ next en) (subst (λ z. KeptOn (frame ∷ frames) caps word Over kept z) (ap (λ n. n ∷ ms) k ∙ y.2) new)
      where
        stayed : (b : Bool) (m k : ℕ) → stays_where b m ≡ Some k → m ≡ k
        stayed true m k e = same_Some m k e
        stayed false m k e = absurd (none-some k e)
    refused_keeps frame frames kept caps word i a later m ms ns _ next iv en em = absurd (none-some next en)

    by_advance : (o : Option (List ℕ)) (b : Board) (ns : List ℕ) → Advances o b → o ≡ Some ns → Kept b ns
    by_advance o b ns h e = subst (λ z. Kept b z) (same_Some h.0 ns (sym h.1 ∙ e)) h.2

    keeps_in : (stack : List Frame) (kept : List (Option Caps)) (caps : Caps) (word : Word) (phase : Phase) (ms ns : List ℕ) (by : Move) (next : Board)
        → let b : Board = record { stack = stack; kept = kept; caps = caps; word = word; phase = phase } in KeptOn stack caps word phase kept ms → moved problem b phase by ≡ Some next
        → memories problem t b ms phase by ≡ Some ns → Kept next ns
    keeps_in [] kept caps word (Visit n a later) ms ns by next i en em = absurd i
    keeps_in (frame ∷ frames) kept caps word (Visit n a later) [] ns by next i en em = absurd i
    keeps_in (frame ∷ frames) kept caps word (Visit n a later) (m ∷ ms) ns by next i en em = visit_keeps frame frames kept caps word n a later m ms ns by next i en em
    keeps_in [] kept caps word (Refused n a later) ms ns by next i en em = absurd i
    keeps_in (frame ∷ frames) kept caps word (Refused n a later) [] ns by next i en em = absurd i
    keeps_in (frame ∷ frames) kept caps word (Refused n a later) (m ∷ ms) ns by next i en em = refused_keeps frame frames kept caps word n a later m ms ns by next i en em
    keeps_in stack kept caps word Over ms ns by next i en em = absurd (none-some next en)
    keeps_in stack kept caps word (Asked n a later) ms ns by next i en em = by_advance _ next ns (advances_in stack kept caps word (Asked n a later) ms by next i refl en) em
    keeps_in stack kept caps word Free ms ns by next i en em = by_advance _ next ns (advances_in stack kept caps word Free ms by next i refl en) em
    keeps_in stack kept caps word FreeSplit ms ns by next i en em = by_advance _ next ns (advances_in stack kept caps word FreeSplit ms by next i refl en) em

    -- each step of a woven run keeps it
    pub keeps : (s : State) (by : Move) (next : State) → Kept s.board s.mems → WovenStep problem t s by next → Kept next.board next.mems
    keeps s by next i h = keeps_in s.board.stack s.board.kept s.board.caps s.board.word s.board.phase s.mems next.mems by next.board i h.0.1 h.1
