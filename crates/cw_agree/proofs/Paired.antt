-- The woven run is followed move by move, and the plain run only at the program's own steps: what both say of a run agrees.
use Rattle.std.proofs.Common.{◌≡◌, ◌≢◌, ℕ, zero, suc, List, [], ◌∷◌, ◌++◌, Bool, true, false, cond, ◌&&◌, Option, Some, None, refl, sym, ap, subst, ◌∙◌, inl, inr}
use Rattle.std.specs.Prelude.{option_map}
use Rattle.std.proofs.lemmas.Option.{same_Some, cond_some}
use Rattle.std.proofs.lemmas.Bool.{both_ways}
use Rattle.cw_lemmas.proofs.Truths.{and_first}
use Rattle.cw_rights.specs.declared.capabilities.Caps.{Caps}
use Rattle.cw_rights.specs.declared.capabilities.Primitive.{Primitive}
use Rattle.cw_rights.specs.declared.capabilities.Primitive.TheVariants.{Limit, Enter, Split}
use Rattle.cw_rights.specs.Policies.{PlainPolicy, is_refusable}
use Rattle.cw_certs.specs.declared.moves.Move.{Move}
use Rattle.cw_certs.specs.declared.moves.Move.TheVariants.{Skip, Try, Grant, Refuse, On as OnMove, Left as LeftMove, Right as RightMove, Opened as OpenedMove, Failed as FailedMove, Stop as StopMove}
use Rattle.cw_certs.specs.Tables.{Table}
use Rattle.cw_syntax.specs.Frames.{Frame, Way, pass}
use Rattle.cw_model.specs.Boards.{Problem, Phase, Visit, Asked, Refused as RefusedPhase, Free, FreeSplit, Over, Board, may_grant, may_refuse, can_stop, begin, onward, primitives_in, moved, stepped, landed, granted, passed_by, refused, answered, is_refused, move_of}
use Rattle.cw_model.specs.Runs.{State}
use Rattle.cw_value.specs.declared.values.Stop.{Stop}
use Rattle.cw_value.specs.declared.values.Stop.TheVariants.{Ended, Steps}
use Rattle.cw_value.specs.Machines.{Source, Machine, goes, halts, step}
use Rattle.cw_value.specs.Shown.{Values}
use Rattle.cw_value.specs.Runs.{Going, answer, counted, ended_values, is_split, IsFree, IsWeaving, Leads, Ends, over, spent, weaves, quits, asks, steps, halted}
use Rattle.cw_agree.specs.Agreements.{Agrees}
use Rattle.cw_agree.proofs.Grows.{run_grows}
use Rattle.cw_agree.proofs.Plain.{plain, plain_step, TopSaved, step_plain}
use Rattle.cw_model.proofs.Moving.{onward_on, begin_on, way_is}

-- a phase in which the stack is empty exactly where all is over
abbrev pub Fits : List Frame → Phase → Type 0
Fits [] Over = Unit {0}
Fits [] phase = ⊥
Fits (frame ∷ frames) Over = ⊥
Fits (frame ∷ frames) phase = Unit {0}

-- a phase of a weaver that skips always
abbrev pub IsPlain : Phase → Type 0
IsPlain (Visit stage a later) = Unit {0}
IsPlain Free = Unit {0}
IsPlain Over = Unit {0}
IsPlain _ = ⊥

-- a split is among these primitives
abbrev pub has_split : List Primitive → Bool
has_split [] = false
has_split (Limit l ∷ later) = has_split later
has_split (Enter ∷ later) = has_split later
has_split (Split ∷ later) = true

-- a split may still come in this phase, or was granted
abbrev pub may_split : Phase → Bool
may_split (Visit stage a later) = has_split (a ∷ later)
may_split (Asked stage a later) = has_split (a ∷ later)
may_split (RefusedPhase stage a later) = has_split (a ∷ later)
may_split Free = false
may_split FreeSplit = true
may_split Over = false

abbrev pub front_primitives : PlainPolicy → List Frame → List Primitive
front_primitives policy [] = []
front_primitives policy (frame ∷ frames) = primitives_in policy frame

later_split : (a : Primitive) (later : List Primitive) → has_split later ≡ true → has_split (a ∷ later) ≡ true
later_split (Limit l) later h = h
later_split Enter later h = h
later_split Split later h = refl

onward_split : (stage : ℕ) (later : List Primitive) → may_split (onward stage later) ≡ has_split later
onward_split stage [] = refl
onward_split stage (a ∷ later) = refl

pub begin_split : (policy : PlainPolicy) (stack : List Frame) → may_split (begin policy stack) ≡ has_split (front_primitives policy stack)
begin_split policy [] = refl
begin_split policy (frame ∷ frames) = onward_split 0 (primitives_in policy frame)

pub onward_fits : (frame : Frame) (frames : List Frame) (stage : ℕ) (later : List Primitive) → Fits (frame ∷ frames) (onward stage later)
onward_fits frame frames stage [] = tt
onward_fits frame frames stage (a ∷ later) = tt

pub begin_fits : (policy : PlainPolicy) (stack : List Frame) → Fits stack (begin policy stack)
begin_fits policy [] = tt
begin_fits policy (frame ∷ frames) = onward_fits frame frames 0 (primitives_in policy frame)

pub onward_plain : (stage : ℕ) (later : List Primitive) → IsPlain (onward stage later)
onward_plain stage [] = tt
onward_plain stage (a ∷ later) = tt

pub begin_plain : (policy : PlainPolicy) (stack : List Frame) → IsPlain (begin policy stack)
begin_plain policy [] = tt
begin_plain policy (frame ∷ frames) = onward_plain 0 (primitives_in policy frame)

abbrev freed : Going → Going
freed s = record s { woven = record s.woven { board = record s.woven.board { phase = Free } } }

no_visit : (stage : ℕ) (a : Primitive) (later : List Primitive) → Visit stage a later ≡ Over → ⊥
no_visit stage a later e = absurd (cc)

not_free : (stage : ℕ) (a : Primitive) (later : List Primitive) (phase : Phase) → phase ≡ Visit stage a later → IsFree phase → ⊥
not_free stage a later phase e h = subst IsFree e h

pub same_state : (s : State) (b : Board) (ms : List ℕ) → s.board ≡ b → s.mems ≡ ms → s ≡ record { board = b; mems = ms }
same_state s b ms e f = ap (λ (x : Board). record { board = x; mems = s.mems }) e ∙ ap (λ (x : List ℕ). record { board = b; mems = x }) f

module _ (source : Source) (p : Problem) where
  pub leads_moved : (weaver : Option Table) (s : State) (m : Move) (next : State) → Leads source p weaver s m next → moved p s.board s.board.phase m ≡ Some next.board
  leads_moved None s m next h = h.0
  leads_moved (Some t) s m next h = h.0.1

  -- A weaver that skips always comes to the front's own step.
  pub passed : (s : State) (m : Move) (next : State) (stage : ℕ) (a : Primitive) (later : List Primitive) → s.board.phase ≡ Visit stage a later → m ≡ Skip
      → Leads source p None s m next → next ≡ record { board = passed_by s.board stage later; mems = s.mems }
  passed s m next stage a later e c mv =
      same_state next (passed_by s.board stage later) s.mems
      (sym (same_Some (passed_by s.board stage later) next.board
      (subst (λ (x : Move). moved p s.board (Visit stage a later) x ≡ Some next.board) c (subst (λ (x : Phase). moved p s.board x m ≡ Some next.board) e mv.0)))) mv.1

  skipped : (n : ℕ) (s : Going) (v : Values) (stage : ℕ) (a : Primitive) (later : List Primitive) → s.woven.board.phase ≡ Visit stage a later
      → Ends source p None (suc n) s v → Ends source p None (suc n) (freed s) v
  skipped n s v stage a later e (over _ _ q) = absurd (no_visit stage a later (sym e ∙ q))
  skipped n s v stage a [] e (weaves _ _ m next _ w c ns mv rest) =
      let here = passed s.woven m next stage a [] e c mv in
      subst (λ (x : Going). Ends source p None (suc n) x v)
      (ap (λ (x : State). record s { woven = x; tried = counted m s.tried }) here ∙ ap (λ (x : Move). record (freed s) { tried = counted x s.tried }) c) rest
  skipped n s v stage a (b ∷ later) e (weaves _ _ m next _ w c ns mv rest) =
      let here = passed s.woven m next stage a (b ∷ later) e c mv in
      subst (λ (x : Going). Ends source p None (suc n) x v)
      (ap (λ (x : State). freed (record s { woven = x; tried = counted m s.tried })) here ∙ ap (λ (x : Move). record (freed s) { tried = counted x s.tried }) c)
      (skipped n (record s { woven = next; tried = counted m s.tried }) v (suc stage) b later (ap (λ (x : State). x.board.phase) here) rest)
  skipped n s v stage a later e (quits _ _ next seam w c mv f) = absurd (cc)
  skipped n s v stage a later e (asks _ _ st b l next _ q mv rest) = absurd (let clash : Visit stage a later ≡ Asked st b l = sym e ∙ q in cc)
  skipped n s v stage a later e (steps _ _ way m next _ h st mv rest) = absurd (not_free stage a later s.woven.board.phase e h)
  skipped n s v stage a later e (halted _ _ why m h st) = absurd (not_free stage a later s.woven.board.phase e h)

  -- what a step of the board leaves, whatever is kept
  pub record Lands (b next : Board) (way : Way) : Type 0 where
    pub stack : List Frame
    pub passes : pass p.plan b.stack way ≡ Some stack
    pub is_stack : next.stack ≡ stack
    pub is_phase : next.phase ≡ begin p.policy stack

  lands_by : (mode : Option Caps) (b next : Board) (way : Way) (o : Option (List Frame)) → pass p.plan b.stack way ≡ o → option_map (landed p mode b way) o ≡ Some next → Lands b next way
  lands_by mode b next way None e h = absurd (cc)
  lands_by mode b next way (Some stack) e h =
      let same = same_Some (landed p mode b way stack) next h in
      record { stack = stack; passes = e; is_stack = ap (λ (x : Board). x.stack) (sym same); is_phase = ap (λ (x : Board). x.phase) (sym same) }

  pub lands : (b next : Board) (phase : Phase) (way : Way) → IsFree phase → moved p b phase (move_of way) ≡ Some next → Lands b next way
  lands b next Free way h e =
      lands_by None b next way (pass p.plan b.stack way) refl (subst (λ (o : Option Way). stepped p None b o ≡ Some next) (way_is way) e)
  lands b next FreeSplit way h e =
      lands_by (Some b.caps) b next way (pass p.plan b.stack way) refl (subst (λ (o : Option Way). stepped p (Some b.caps) b o ≡ Some next) (way_is way) e)
  lands b next (Visit i a l) way h e = absurd h
  lands b next (Asked i a l) way h e = absurd h
  lands b next (RefusedPhase i a l) way h e = absurd h
  lands b next Over way h e = absurd h

  -- The weaver's moves but a stop, and the answers to it, leave the stack, and bring no split that wasn't to come.
  pub record Stays (b next : Board) : Type 0 where
    pub stack : next.stack ≡ b.stack
    pub fits : (frame : Frame) (frames : List Frame) → Fits (frame ∷ frames) next.phase
    pub split : may_split next.phase ≡ true → may_split b.phase ≡ true
    pub stop : is_refused next.phase ≡ true → p.policy.stop ≡ true

  stays_by : (b next : Board) (phase new : Phase) → b.phase ≡ phase → next ≡ record b { phase = new } → ((frame : Frame) (frames : List Frame) → Fits (frame ∷ frames) new)
      → (may_split new ≡ true → may_split phase ≡ true) → (is_refused new ≡ true → p.policy.stop ≡ true) → Stays b next
  stays_by b next phase new e f fits split stop = record {
    stack = ap (λ (x : Board). x.stack) f;
    fits = λ frame frames. subst (λ (x : Phase). Fits (frame ∷ frames) x) (sym (ap (λ (x : Board). x.phase) f)) (fits frame frames);
    split = λ h. ap may_split e ∙ split (sym (ap (λ (x : Board). may_split x.phase) f) ∙ h);
    stop = λ h. stop (sym (ap (λ (x : Board). is_refused x.phase) f) ∙ h);
  }

  stays_onward : (b next : Board) (phase : Phase) (stage : ℕ) (a : Primitive) (later : List Primitive) → b.phase ≡ phase → (has_split (a ∷ later) ≡ may_split phase)
      → next ≡ record b { phase = onward (suc stage) later } → Stays b next
  stays_onward b next phase stage a later e q f =
      stays_by b next phase (onward (suc stage) later) e f (λ frame frames. onward_fits frame frames (suc stage) later)
      (λ h. sym q ∙ later_split a later (sym (onward_split (suc stage) later) ∙ h))
      (λ h. absurd (both_ways (is_refused (onward (suc stage) later)) (onward_on (suc stage) later) h))

  pub weave_stays : (b next : Board) (phase : Phase) (m : Move) → b.phase ≡ phase → IsWeaving phase → m ≢ StopMove → moved p b phase m ≡ Some next → Stays b next
  weave_stays b next (Visit i a l) Skip q h ns e = stays_onward b next (Visit i a l) i a l q refl (sym (same_Some (passed_by b i l) next e))
  weave_stays b next (Visit i a l) Try q h ns e =
      stays_by b next (Visit i a l) (Asked i a l) q (sym (same_Some (record b { phase = Asked i a l }) next e)) (λ frame frames. tt) (λ k. k) (λ k. absurd (cc))
  weave_stays b next (Visit i a l) Grant q h ns e = absurd (cc)
  weave_stays b next (Visit i a l) Refuse q h ns e = absurd (cc)
  weave_stays b next (Visit i a l) OnMove q h ns e = absurd (cc)
  weave_stays b next (Visit i a l) LeftMove q h ns e = absurd (cc)
  weave_stays b next (Visit i a l) RightMove q h ns e = absurd (cc)
  weave_stays b next (Visit i a l) OpenedMove q h ns e = absurd (cc)
  weave_stays b next (Visit i a l) FailedMove q h ns e = absurd (cc)
  weave_stays b next (Visit i a l) StopMove q h ns e = absurd (ns refl)
  weave_stays b next (RefusedPhase i a l) Skip q h ns e = stays_onward b next (RefusedPhase i a l) i a l q refl (sym (same_Some (passed_by b i l) next e))
  weave_stays b next (RefusedPhase i a l) Try q h ns e = absurd (cc)
  weave_stays b next (RefusedPhase i a l) Grant q h ns e = absurd (cc)
  weave_stays b next (RefusedPhase i a l) Refuse q h ns e = absurd (cc)
  weave_stays b next (RefusedPhase i a l) OnMove q h ns e = absurd (cc)
  weave_stays b next (RefusedPhase i a l) LeftMove q h ns e = absurd (cc)
  weave_stays b next (RefusedPhase i a l) RightMove q h ns e = absurd (cc)
  weave_stays b next (RefusedPhase i a l) OpenedMove q h ns e = absurd (cc)
  weave_stays b next (RefusedPhase i a l) FailedMove q h ns e = absurd (cc)
  weave_stays b next (RefusedPhase i a l) StopMove q h ns e = absurd (ns refl)
  weave_stays b next (Asked i a l) m q h ns e = absurd h
  weave_stays b next Free m q h ns e = absurd h
  weave_stays b next FreeSplit m q h ns e = absurd h
  weave_stays b next Over m q h ns e = absurd h

  grant_stays : (b next : Board) (i : ℕ) (a : Primitive) (l : List Primitive) → b.phase ≡ Asked i a l → granted b i a l ≡ next → Stays b next
  grant_stays b next i Split l q e = stays_by b next (Asked i Split l) FreeSplit q (sym e) (λ frame frames. tt) (λ h. refl) (λ k. absurd (cc))
  grant_stays b next i Enter l q e = record {
    stack = ap (λ (x : Board). x.stack) (sym e);
    fits = λ frame frames. subst (λ (x : Phase). Fits (frame ∷ frames) x) (ap (λ (x : Board). x.phase) e) (onward_fits frame frames (suc i) l);
    split = λ h. ap may_split q ∙ (sym (onward_split (suc i) l) ∙ ap (λ (x : Board). may_split x.phase) e ∙ h);
    stop = λ h. absurd (both_ways (is_refused (onward (suc i) l)) (onward_on (suc i) l) (ap (λ (x : Board). is_refused x.phase) e ∙ h));
  }
  grant_stays b next i (Limit m) l q e = record {
    stack = ap (λ (x : Board). x.stack) (sym e);
    fits = λ frame frames. subst (λ (x : Phase). Fits (frame ∷ frames) x) (ap (λ (x : Board). x.phase) e) (onward_fits frame frames (suc i) l);
    split = λ h. ap may_split q ∙ (sym (onward_split (suc i) l) ∙ ap (λ (x : Board). may_split x.phase) e ∙ h);
    stop = λ h. absurd (both_ways (is_refused (onward (suc i) l)) (onward_on (suc i) l) (ap (λ (x : Board). is_refused x.phase) e ∙ h));
  }

  may_stop : (b : Board) (a : Primitive) → can_stop p.policy b.caps a ≡ true → p.policy.stop ≡ true
  may_stop b a h = and_first p.policy.stop (is_refusable p.policy a && may_grant b.caps a) h

  refuse_stays : (c : Bool) (b next : Board) (i : ℕ) (a : Primitive) (l : List Primitive) → can_stop p.policy b.caps a ≡ c → b.phase ≡ Asked i a l
      → record b { phase = cond c (RefusedPhase i a l) (onward (suc i) l) } ≡ next → Stays b next
  refuse_stays true b next i a l c q e = stays_by b next (Asked i a l) (RefusedPhase i a l) q (sym e) (λ frame frames. tt) (λ h. h) (λ h. may_stop b a c)
  refuse_stays false b next i a l c q e = stays_onward b next (Asked i a l) i a l q refl (sym e)

  pub answer_stays : (b next : Board) (i : ℕ) (a : Primitive) (l : List Primitive) (m : Move) → b.phase ≡ Asked i a l → answered p b i a l m ≡ Some next → Stays b next
  answer_stays b next i a l Grant q e = grant_stays b next i a l q ((cond_some (may_grant b.caps a) (granted b i a l) next e).1)
  answer_stays b next i a l Refuse q e = refuse_stays (can_stop p.policy b.caps a) b next i a l refl q ((cond_some (may_refuse p.policy b.caps a) (refused p b i a l) next e).1)
  answer_stays b next i a l Skip q e = absurd (cc)
  answer_stays b next i a l Try q e = absurd (cc)
  answer_stays b next i a l OnMove q e = absurd (cc)
  answer_stays b next i a l LeftMove q e = absurd (cc)
  answer_stays b next i a l RightMove q e = absurd (cc)
  answer_stays b next i a l OpenedMove q e = absurd (cc)
  answer_stays b next i a l FailedMove q e = absurd (cc)
  answer_stays b next i a l StopMove q e = absurd (cc)

  -- ---- the plain run, opened at the program's own steps

  over_ends : (n : ℕ) (s : Going) (v : Values) → s.woven.board.phase ≡ Over → Ends source p None n s v → v ≡ ended_values s Ended
  over_ends n s v e (over _ _ q) = refl
  over_ends n s v e (spent _ q) = absurd (q e)
  over_ends n s v e (weaves _ _ m next _ w c ns mv rest) = absurd (subst IsWeaving e w)
  over_ends n s v e (quits _ _ next seam w c mv f) = absurd (subst IsWeaving e w)
  over_ends n s v e (asks _ _ st b l next _ q mv rest) = absurd (let clash : Over ≡ Asked st b l = sym e ∙ q in cc)
  over_ends n s v e (steps _ _ way m next _ h st mv rest) = absurd (subst IsFree e h)
  over_ends n s v e (halted _ _ why m h st) = absurd (subst IsFree e h)

  spent_ends : (s : Going) (v : Values) → s.woven.board.phase ≢ Over → Ends source p None zero s v → v ≡ ended_values s Steps
  spent_ends s v e (over _ _ q) = absurd (e q)
  spent_ends s v e (spent _ q) = refl

  -- the front's own step is due, after the visits that were skipped
  record AtFront (n : ℕ) (s : Going) (v : Values) : Type 0 where
    state : Going
    phase : state.woven.board.phase ≡ Free
    stack : state.woven.board.stack ≡ s.woven.board.stack
    machine : state.machine ≡ s.machine
    ends : Ends source p None (suc n) state v

  at_front : (n : ℕ) (s : Going) (v : Values) (phase : Phase) → s.woven.board.phase ≡ phase → IsPlain phase → phase ≢ Over → Ends source p None (suc n) s v → AtFront n s v
  at_front n s v (Visit i a l) e h o d = record { state = freed s; phase = refl; stack = refl; machine = refl; ends = skipped n s v i a l e d }
  at_front n s v Free e h o d = record { state = s; phase = e; stack = refl; machine = refl; ends = d }
  at_front n s v Over e h o d = absurd (o refl)
  at_front n s v (Asked i a l) e h o d = absurd h
  at_front n s v (RefusedPhase i a l) e h o d = absurd h
  at_front n s v FreeSplit e h o d = absurd h

  -- a step of the front
  record Stepped (n : ℕ) (s : Going) (v : Values) (way : Way) (m : Machine) : Type 0 where
    next : State
    lands_on : Lands s.woven.board next.board way
    ends : Ends source p None n (record s { woven = next; machine = m }) v

  pub same_goes : (way way2 : Way) (m m2 : Machine) → goes way m ≡ goes way2 m2 → (way ≡ way2) × (m ≡ m2)
  same_goes way way2 m m2 e = ((cc), (cc))

  pub same_halts : (x y : Stop) (m m2 : Machine) → halts x m ≡ halts y m2 → (x ≡ y) × (m ≡ m2)
  same_halts x y m m2 e = ((cc), (cc))

  free_steps : (n : ℕ) (s : Going) (v : Values) (way : Way) (m : Machine) → s.woven.board.phase ≡ Free → step source false s.woven.board.stack s.machine ≡ goes way m
      → Ends source p None (suc n) s v → Stepped n s v way m
  free_steps n s v way m e st (over _ _ q) = absurd (let clash : Free ≡ Over = sym e ∙ q in cc)
  free_steps n s v way m e st (weaves _ _ m2 next _ w c ns mv rest) = absurd (subst IsWeaving e w)
  free_steps n s v way m e st (quits _ _ next seam w c mv f) = absurd (subst IsWeaving e w)
  free_steps n s v way m e st (asks _ _ stage b l next _ q mv rest) = absurd (let clash : Free ≡ Asked stage b l = sym e ∙ q in cc)
  free_steps n s v way m e st (steps _ _ way2 m2 next _ h st2 mv rest) =
      let same = same_goes way2 way m2 m (sym st2 ∙ ap (λ (x : Phase). step source (is_split x) s.woven.board.stack s.machine) e ∙ st) in
      record {
        next = next;
        lands_on = subst (λ (x : Way). Lands s.woven.board next.board x) same.0 (lands s.woven.board next.board s.woven.board.phase way2 h mv.0);
        ends = subst (λ (x : Machine). Ends source p None n (record s { woven = next; machine = x }) v) same.1 rest;
      }
  free_steps n s v way m e st (halted _ _ why m2 h st2) =
      absurd (let clash : halts why m2 ≡ goes way m = sym st2 ∙ ap (λ (x : Phase). step source (is_split x) s.woven.board.stack s.machine) e ∙ st in cc)

  free_halts : (n : ℕ) (s : Going) (v : Values) (why : Stop) (m : Machine) → s.woven.board.phase ≡ Free → step source false s.woven.board.stack s.machine ≡ halts why m
      → Ends source p None (suc n) s v → v ≡ record { made = m.made; tried = s.tried; stop = why }
  free_halts n s v why m e st (over _ _ q) = absurd (let clash : Free ≡ Over = sym e ∙ q in cc)
  free_halts n s v why m e st (weaves _ _ m2 next _ w c ns mv rest) = absurd (subst IsWeaving e w)
  free_halts n s v why m e st (quits _ _ next seam w c mv f) = absurd (subst IsWeaving e w)
  free_halts n s v why m e st (asks _ _ stage b l next _ q mv rest) = absurd (let clash : Free ≡ Asked stage b l = sym e ∙ q in cc)
  free_halts n s v why m e st (steps _ _ way2 m2 next _ h st2 mv rest) =
      absurd (let clash : goes way2 m2 ≡ halts why m = sym st2 ∙ ap (λ (x : Phase). step source (is_split x) s.woven.board.stack s.machine) e ∙ st in cc)
  free_halts n s v why m e st (halted _ _ why2 m2 h st2) =
      let same = same_halts why2 why m2 m (sym st2 ∙ ap (λ (x : Phase). step source (is_split x) s.woven.board.stack s.machine) e ∙ st) in
      ap (λ (x : Machine). record { made = x.made; tried = s.tried; stop = why2 }) same.1 ∙ ap (λ (x : Stop). record { made = m.made; tried = s.tried; stop = x }) same.0

  -- a stop of the weaver comes only right after a refusal
  pub stop_refused : (b next : Board) (phase : Phase) → b.phase ≡ phase → IsWeaving phase → moved p b phase StopMove ≡ Some next → is_refused b.phase ≡ true
  stop_refused b next (Visit i a l) q h e = absurd (cc)
  stop_refused b next (RefusedPhase i a l) q h e = ap is_refused q
  stop_refused b next (Asked i a l) q h e = absurd h
  stop_refused b next Free q h e = absurd h
  stop_refused b next FreeSplit q h e = absurd h
  stop_refused b next Over q h e = absurd h

  -- An invariant of the woven run's stack and values, by which what a frame keeps of the file's values is what they are.
  pub record Invariant (Inv : List Frame → Machine → Type 0) : Type 0 where
    pub saved : (stack : List Frame) (m : Machine) → Inv stack m → TopSaved m.shared m.frames
    pub kept : (split : Bool) (stack : List Frame) (m : Machine) (way : Way) (m2 : Machine) (next : List Frame)
        → (split ≡ true → has_split (front_primitives p.policy stack) ≡ true)
        → Inv stack m → step source split stack m ≡ goes way m2 → pass p.plan stack way ≡ Some next → Inv next m2

  module _ (weaver : Option Table) (Inv : List Frame → Machine → Type 0) (invariant : Invariant Inv) where
    -- the state of the plain run and that of the woven one
    pub record Paired (s t : Going) : Type 0 where
      pub stack : s.woven.board.stack ≡ t.woven.board.stack
      pub values : s.machine ≡ plain t.machine
      pub is_plain : IsPlain s.woven.board.phase
      pub plain_fits : Fits s.woven.board.stack s.woven.board.phase
      pub woven_fits : Fits t.woven.board.stack t.woven.board.phase
      pub split : may_split t.woven.board.phase ≡ true → has_split (front_primitives p.policy t.woven.board.stack) ≡ true
      pub stop : is_refused t.woven.board.phase ≡ true → p.policy.stop ≡ true
      pub inv : Inv t.woven.board.stack t.machine

    over_empty : (stack : List Frame) (phase : Phase) → Fits stack phase → phase ≡ Over → stack ≡ []
    over_empty [] phase h e = refl
    over_empty (f ∷ fs) phase h e = absurd (subst (Fits (f ∷ fs)) e h)

    empty_over : (stack : List Frame) (phase : Phase) → Fits stack phase → stack ≡ [] → phase ≡ Over
    empty_over [] Over h e = refl
    empty_over [] (Visit i a l) h e = absurd h
    empty_over [] (Asked i a l) h e = absurd h
    empty_over [] (RefusedPhase i a l) h e = absurd h
    empty_over [] Free h e = absurd h
    empty_over [] FreeSplit h e = absurd h
    empty_over (f ∷ fs) phase h e = absurd (cc)

    both_over : (s t : Going) → Paired s t → t.woven.board.phase ≡ Over → s.woven.board.phase ≡ Over
    both_over s t h e = empty_over s.woven.board.stack s.woven.board.phase h.plain_fits (h.stack ∙ over_empty t.woven.board.stack t.woven.board.phase h.woven_fits e)

    neither_over : (s t : Going) → Paired s t → t.woven.board.phase ≢ Over → s.woven.board.phase ≢ Over
    neither_over s t h n e = n (empty_over t.woven.board.stack t.woven.board.phase h.woven_fits (sym h.stack ∙ over_empty s.woven.board.stack s.woven.board.phase h.plain_fits e))

    stays_fit : (b next : Board) → Fits b.stack b.phase → b.phase ≢ Over → Stays b next → Fits next.stack next.phase
    stays_fit b next h o q = by_stack b.stack refl where
      by_stack : (stack : List Frame) → b.stack ≡ stack → Fits next.stack next.phase
      by_stack [] e = absurd (o (empty_over b.stack b.phase h e))
      by_stack (f ∷ fs) e = subst (λ (x : List Frame). Fits x next.phase) (sym (q.stack ∙ e)) (q.fits f fs)

    pub stays_paired : (s t : Going) (next : State) (tries : List Move) (tried : ℕ) → Paired s t → t.woven.board.phase ≢ Over → Stays t.woven.board next.board
        → Paired s (record t { woven = next; tries = tries; tried = tried })
    stays_paired s t next tries tried h o q = record {
      stack = h.stack ∙ sym q.stack;
      values = h.values;
      is_plain = h.is_plain;
      plain_fits = h.plain_fits;
      woven_fits = stays_fit t.woven.board next.board h.woven_fits o q;
      split = λ k. ap (λ (x : List Frame). has_split (front_primitives p.policy x)) q.stack ∙ h.split (q.split k);
      stop = q.stop;
      inv = subst (λ (x : List Frame). Inv x t.machine) (sym q.stack) h.inv;
    }

    pub weaving_on : (phase : Phase) → IsWeaving phase → phase ≢ Over
    weaving_on phase h e = subst IsWeaving e h

    pub free_on : (phase : Phase) → IsFree phase → phase ≢ Over
    free_on phase h e = subst IsFree e h

    pub split_may : (phase : Phase) → is_split phase ≡ true → may_split phase ≡ true
    split_may FreeSplit e = refl
    split_may Free e = absurd (cc)
    split_may Over e = absurd (cc)
    split_may (Visit i a l) e = absurd (cc)
    split_may (Asked i a l) e = absurd (cc)
    split_may (RefusedPhase i a l) e = absurd (cc)

    -- the plain run's step from a state that is paired
    pub plain_does : (s t : Going) (x : Going) (split : Bool) → Paired s t → x.woven.board.stack ≡ s.woven.board.stack → x.machine ≡ s.machine
        → step source false x.woven.board.stack x.machine ≡ plain_step (step source split t.woven.board.stack t.machine)
    plain_does s t x split h e f =
        ap (λ (z : List Frame). step source false z x.machine) (e ∙ h.stack) ∙ ap (step source false t.woven.board.stack) (f ∙ h.values)
        ∙ step_plain source split t.woven.board.stack t.machine (invariant.saved t.woven.board.stack t.machine h.inv)

    pub landed_paired : (x t : Going) (way : Way) (m : Machine) (nx nt : State) → x.woven.board.stack ≡ t.woven.board.stack → Lands x.woven.board nx.board way → Lands t.woven.board nt.board way
        → ((stack : List Frame) → pass p.plan t.woven.board.stack way ≡ Some stack → Inv stack m)
        → Paired (record x { woven = nx; machine = plain m }) (record t { woven = nt; machine = m })
    landed_paired x t way m nx nt e lx lt inv =
        let same : lx.stack ≡ lt.stack = same_Some lx.stack lt.stack (sym lx.passes ∙ ap (λ (z : List Frame). pass p.plan z way) e ∙ lt.passes) in
        record {
          stack = lx.is_stack ∙ same ∙ sym lt.is_stack;
          values = refl;
          is_plain = subst IsPlain (sym lx.is_phase) (begin_plain p.policy lx.stack);
          plain_fits = subst (λ (z : List Frame). Fits z nx.board.phase) (sym lx.is_stack) (subst (Fits lx.stack) (sym lx.is_phase) (begin_fits p.policy lx.stack));
          woven_fits = subst (λ (z : List Frame). Fits z nt.board.phase) (sym lt.is_stack) (subst (Fits lt.stack) (sym lt.is_phase) (begin_fits p.policy lt.stack));
          split = λ k. ap (λ (z : List Frame). has_split (front_primitives p.policy z)) lt.is_stack ∙ (sym (begin_split p.policy lt.stack) ∙ (sym (ap may_split lt.is_phase) ∙ k));
          stop = λ k. absurd (both_ways (is_refused (begin p.policy lt.stack)) (begin_on p.policy lt.stack) (sym (ap is_refused lt.is_phase) ∙ k));
          inv = subst (λ (z : List Frame). Inv z m) (sym lt.is_stack) (inv lt.stack lt.passes);
        }

    pub agree : (n : ℕ) (s t : Going) (v w : Values) → Paired s t → Ends source p None n s v → Ends source p weaver n t w → Agrees p.policy v w
    agree n s t v w h d (over _ _ q) =
        let e = over_ends n s v (both_over s t h q) d in
        inl (ap (λ (x : Values). x.made) e ∙ ap (λ (x : Machine). x.made) h.values, ap (λ (x : Values). x.stop) e)
    agree n s t v w h d (spent _ q) =
        let e = spent_ends s v (neither_over s t h q) d in
        inl (ap (λ (x : Values). x.made) e ∙ ap (λ (x : Machine). x.made) h.values, ap (λ (x : Values). x.stop) e)
    agree n s t v w h d (weaves k _ m next _ wv c ns mv rest) =
        agree n s (record t { woven = next; tried = counted m t.tried }) v w
        (stays_paired s t next t.tries (counted m t.tried) h (weaving_on t.woven.board.phase wv)
        (weave_stays t.woven.board next.board t.woven.board.phase m refl wv ns (leads_moved weaver t.woven m next mv))) d rest
    agree n s t v w h d (quits k _ next seam wv c mv f) =
        let more = run_grows source p None n s v d in
        inr (record {
          seam = seam;
          refused = refl;
          can_stop = h.stop (stop_refused t.woven.board next.board t.woven.board.phase refl wv (leads_moved weaver t.woven StopMove next mv));
          more = more.0;
          made = more.1 ∙ ap (λ (x : Machine). x.made ++ more.0) h.values;
        })
    agree n s t v w h d (asks k _ stage a later next _ q mv rest) =
        let by = (answer p t.woven.board a t.tries).0 in
        agree n s (record t { woven = next; tries = (answer p t.woven.board a t.tries).1 }) v w
        (stays_paired s t next (answer p t.woven.board a t.tries).1 t.tried h (λ e. absurd (let clash : Asked stage a later ≡ Over = sym q ∙ e in cc))
        (answer_stays t.woven.board next.board stage a later by q
        (subst (λ (x : Phase). moved p t.woven.board x by ≡ Some next.board) q (leads_moved weaver t.woven by next mv)))) d rest
    agree n s t v w h d (steps k _ way m next _ fr st mv rest) =
        let x = at_front k s v s.woven.board.phase refl h.is_plain (neither_over s t h (free_on t.woven.board.phase fr)) d in
        let does = plain_does s t x.state (is_split t.woven.board.phase) h x.stack x.machine ∙ ap plain_step st in
        let y = free_steps k x.state v way (plain m) x.phase does x.ends in
        agree k (record x.state { woven = y.next; machine = plain m }) (record t { woven = next; machine = m }) v w
        (landed_paired x.state t way m y.next next (x.stack ∙ h.stack) y.lands_on (lands t.woven.board next.board t.woven.board.phase way fr (leads_moved weaver t.woven (move_of way) next mv))
        (λ stack e. invariant.kept (is_split t.woven.board.phase) t.woven.board.stack t.machine way m stack
        (λ c. h.split (split_may t.woven.board.phase c)) h.inv st e)) y.ends rest
    agree n s t v w h d (halted k _ why m fr st) =
        let x = at_front k s v s.woven.board.phase refl h.is_plain (neither_over s t h (free_on t.woven.board.phase fr)) d in
        let does = plain_does s t x.state (is_split t.woven.board.phase) h x.stack x.machine ∙ ap plain_step st in
        let e = free_halts k x.state v why (plain m) x.phase does x.ends in
        inl (ap (λ (z : Values). z.made) e, ap (λ (z : Values). z.stop) e)
