-- What a board's front and phase are where the spot of its position is known, and what its moves leave.
use Rattle.std.proofs.Common.{◌≡◌, ℕ, List, [], ◌∷◌, Bool, true, false, cond, Option, Some, None, option_map, option_and_then, refl, sym, ap, ◌∙◌, subst}
use Rattle.std.specs.Prelude.{slice_get}
use Rattle.std.proofs.lemmas.Option.{none-some, same_Some, cond_some}
use Rattle.cw_rights.specs.declared.capabilities.Caps.{Caps}
use Rattle.cw_rights.specs.declared.capabilities.Primitive.{Primitive}
use Rattle.cw_rights.specs.declared.capabilities.Primitive.TheVariants.{Split}
use Rattle.cw_rights.specs.Words.{Word}
use Rattle.cw_rights.specs.Policies.{PlainPolicy}
use Rattle.cw_certs.specs.declared.moves.Move.{Move}
use Rattle.cw_certs.specs.declared.moves.Move.TheVariants.{Skip, Try, Grant, Refuse, On, Left, Right, Opened, Failed, Stop}
use Rattle.cw_certs.specs.Tables.{Table}
use Rattle.cw_syntax.specs.Plans.{Callee, Stm, Open, Close, Call, Label}
use Rattle.cw_syntax.specs.Frames.{Item, Todo, End, Frame, after, settle}
use Rattle.cw_model.specs.Boards.{Problem, Phase, Visit, Asked, Refused, Free, FreeSplit, Over, Board, Weaver, Environment, seam_in, may_grant, may_refuse, can_stop, way_of}
use Rattle.cw_model.specs.Boards.{granted, refused, answered, moved, stop_answers, turn_of}
use Rattle.cw_model.specs.Runs.{mem_in, try_in, refused_with, memories}
use Rattle.cw_model.proofs.Moving.{board_on}
use Rattle.cw_game.specs.declared.spots.Spot.{Spot}
use Rattle.cw_game.specs.declared.spots.Spot.TheVariants.{Step, Branch, Exit, Visit as VisitSpot, Asked as AskedSpot, Label as LabelSpot, Open as OpenSpot, Close as CloseSpot}
use Rattle.cw_game.specs.declared.spots.Spot.TheVariants.{Call as CallSpot, SplitCall}
use Rattle.cw_game.specs.Standing.{Meaning, StandsIn}
use Rattle.cw_game.proofs.Moves.{step_of}
use Rattle.cw_game.proofs.Fronts.{IsQuiet, Front, is_step, is_branch, is_label, is_open, is_close, is_call, is_end, front_of}
use Rattle.cw_run.specs.Walks.{mem_after}

-- What stands at a position and what is at the front of a board that stands there.
pub data Sees : Frame → Phase → Spot → Type 0 where
  sees_visit : {frame : Frame} {j i : ℕ} {a : Primitive} {later : List Primitive} → seam_in frame ≡ Some j → Sees frame (Visit i a later) (VisitSpot j i a)
  sees_asked : {frame : Frame} {j i : ℕ} {a : Primitive} {later : List Primitive} → seam_in frame ≡ Some j → Sees frame (Asked i a later) (AskedSpot j i a)
  sees_step : {i : Item} {is : Frame} {n : ℕ} → IsQuiet i is → Sees (i ∷ is) Free (Step n)
  sees_branch : {i : Item} {is : Frame} {m n : ℕ} → IsQuiet i is → Sees (i ∷ is) Free (Branch m n)
  sees_label : {at mark j l : ℕ} {s : Stm} {is : Frame} {n : ℕ} → Sees (Todo (Label at mark j l s) ∷ is) Free (LabelSpot j l n)
  sees_open : {at j d : ℕ} {is : Frame} {n : ℕ} → Sees (Todo (Open at j d) ∷ is) Free (OpenSpot j d n)
  sees_close : {at j d : ℕ} {is : Frame} {n : ℕ} → Sees (Todo (Close at j d) ∷ is) Free (CloseSpot j d n)
  sees_call : {at j : ℕ} {callee : Callee} {is : Frame} {n : ℕ} → Sees (Todo (Call at j callee) ∷ is) Free (CallSpot j callee.number n)
  sees_split : {at j : ℕ} {callee : Callee} {is : Frame} {n : ℕ} → Sees (Todo (Call at j callee) ∷ is) FreeSplit (SplitCall j callee.number n)
  sees_end : {f : ℕ} {is : Frame} → Sees (End f ∷ is) Free (Exit f)

abbrev pub Seen : List Spot → ℕ → Frame → Phase → Type 0
Seen g p frame phase = (spot : Spot) × (slice_get g p ≡ Some spot) × Sees frame phase spot

module _ (Means : Meaning) (g : List Spot) (pol : PlainPolicy) (x : ℕ) where
  free_seen : (p : ℕ) (frame : Frame) → Front g pol x p frame → Seen g p frame Free
  free_seen p _ (is_step {i} {is} next {n} quiet ways es a) = (Step n, es, sees_step quiet)
  free_seen p _ (is_branch {i} {is} left right {m} {n} quiet ways es a b) = (Branch m n, es, sees_branch quiet)
  free_seen p _ (is_label {at} {mark} {j} {l} {s} {is} {n} es a) = (LabelSpot j l n, es, sees_label)
  free_seen p _ (is_open {at} {j} {d} {is} {n} lt es a) = (OpenSpot j d n, es, sees_open)
  free_seen p _ (is_close {at} {j} {d} {is} {n} lt es a) = (CloseSpot j d n, es, sees_close)
  free_seen p _ (is_call {at} {j} {callee} {is} {n} es a) = (CallSpot j callee.number n, es.0, sees_call)
  free_seen p _ (is_end {f} {is} es ep) = (Exit f, es, sees_end)

  pub see : (frame : Frame) (caps : Caps) (word : Word) (phase : Phase) (p q : ℕ) → StandsIn Means g pol x frame caps word phase p q → Seen g p frame phase
  see frame caps word (Visit i a later) p q h = let s = h.0 in (VisitSpot s.1 i a, s.4.0, sees_visit s.2)
  see frame caps word (Asked i a later) p q h = let s = h.1 in (AskedSpot s.1 i a, ap (slice_get g) h.2 ∙ s.4.1, sees_asked s.2)
  see frame caps word Free p q h = free_seen p frame (front_of g pol x frame p h.0 h.2)
  see (Todo (Call at j callee) ∷ is) caps word FreeSplit p q h =
      let w = h.1.2 in
      (SplitCall j callee.number w.0, ap (slice_get g) h.3 ∙ w.1.1 h.2, sees_split)
  see _ caps word FreeSplit p q h = absurd h.2
  see frame caps word (Refused i a later) p q h = absurd h
  see frame caps word Over p q h = absurd h

  pub means_in : (frame : Frame) (caps : Caps) (word : Word) (phase : Phase) (p q : ℕ) → StandsIn Means g pol x frame caps word phase p q → Means q word caps
  means_in frame caps word (Visit i a later) p q h = h.1
  means_in frame caps word (Asked i a later) p q h = h.3
  means_in frame caps word Free p q h = h.1
  means_in frame caps word FreeSplit p q h = h.4
  means_in frame caps word (Refused i a later) p q h = absurd h
  means_in frame caps word Over p q h = absurd h

-- a position within a function: neither a call nor an exit
abbrev pub is_inner : Spot → Bool
is_inner (CallSpot j f n) = false
is_inner (SplitCall j f n) = false
is_inner (Exit f) = false
is_inner _ = true

abbrev pub below : List Frame → List Frame
below [] = []
below (frame ∷ frames) = frames

module _ (p : Problem) (t : Table) where
  -- what is remembered, in the same frame
  top_answer : (halts : Bool) (o : Option (List ℕ)) (ms : List ℕ) → halts ≡ false → cond halts (Some ms) o ≡ o
  top_answer true o ms e = cc
  top_answer false o ms e = refl

  asked_memory : (frame : Frame) (frames : List Frame) (kept : List (Option Caps)) (caps : Caps) (word : Word) (i j : ℕ) (a : Primitive) (later : List Primitive) (by : Move) (m : ℕ)
      (ms : List ℕ) → seam_in frame ≡ Some j → stop_answers p.policy caps (Asked i a later) by ≡ false
      → memories p t (board_on (frame ∷ frames) kept caps word (Asked i a later)) (m ∷ ms) (Asked i a later) by ≡ option_map (λ n. n ∷ ms) (mem_after t m (AskedSpot j i a) by)
  asked_memory frame frames kept caps word i j a later Grant m ms e h =
      ap (λ s. option_map (λ n. n ∷ ms) (option_and_then (λ r. option_and_then (mem_in t) r.granted) (try_in t s i m))) e
  asked_memory frame frames kept caps word i j a later Refuse m ms e h =
      top_answer (can_stop p.policy caps a) _ (m ∷ ms) h
      ∙ ap (λ s. option_map (λ n. n ∷ ms) (refused_with t (try_in t s i m))) e
  asked_memory frame frames kept caps word i j a later Skip m ms e h = refl
  asked_memory frame frames kept caps word i j a later Try m ms e h = refl
  asked_memory frame frames kept caps word i j a later On m ms e h = refl
  asked_memory frame frames kept caps word i j a later Left m ms e h = refl
  asked_memory frame frames kept caps word i j a later Right m ms e h = refl
  asked_memory frame frames kept caps word i j a later Opened m ms e h = refl
  asked_memory frame frames kept caps word i j a later Failed m ms e h = refl
  asked_memory frame frames kept caps word i j a later Stop m ms e h = refl

  pub remembered : (frame : Frame) (frames : List Frame) (kept : List (Option Caps)) (caps : Caps) (word : Word) (phase : Phase) (by : Move) (spot : Spot) (m : ℕ) (ms : List ℕ)
      → Sees frame phase spot → is_inner spot ≡ true → turn_of phase ≡ Some Environment → stop_answers p.policy caps phase by ≡ false
      → memories p t (board_on (frame ∷ frames) kept caps word phase) (m ∷ ms) phase by ≡ option_map (λ n. n ∷ ms) (mem_after t m spot by)
  remembered frame frames kept caps word _ by _ m ms (sees_visit e) inner turn h = let w = same_Some Weaver Environment turn in cc
  remembered frame frames kept caps word _ by _ m ms (sees_asked {frame = fr} {j = j} {i = i} {a = a} {later = later} e) inner turn h = asked_memory frame frames kept caps word i j a later by m ms e h
  remembered _ frames kept caps word _ by _ m ms (sees_step quiet) inner turn h = quiet.remembers t false by frames kept (m ∷ ms)
  remembered _ frames kept caps word _ by _ m ms (sees_branch quiet) inner turn h = quiet.remembers t false by frames kept (m ∷ ms)
  remembered _ frames kept caps word _ by _ m ms sees_label inner turn h = refl
  remembered _ frames kept caps word _ by _ m ms sees_open inner turn h = refl
  remembered _ frames kept caps word _ by _ m ms sees_close inner turn h = refl
  remembered _ frames kept caps word _ by _ m ms sees_call inner turn h = cc
  remembered _ frames kept caps word _ by _ m ms sees_split inner turn h = cc
  remembered _ frames kept caps word _ by _ m ms sees_end inner turn h = cc

  -- what stays below the top frame
  abbrev pub Stays : List Frame → List (Option Caps) → Board → Type 0
  Stays frames kept next = (below next.stack ≡ frames) × (next.kept ≡ kept)

  same_stay : (b next : Board) (frames : List Frame) (kept : List (Option Caps)) → Some b ≡ Some next → Stays frames kept b → Stays frames kept next
  same_stay b next frames kept e h = subst (λ n. Stays frames kept n) (same_Some b next e) h

  granted_stay : (b : Board) (i : ℕ) (a : Primitive) (later : List Primitive) → Stays (below b.stack) b.kept (granted b i a later)
  granted_stay b i Split later = (refl, refl)
  granted_stay b i a later = (refl, refl)

  answered_stay : (b next : Board) (i : ℕ) (a : Primitive) (later : List Primitive) (by : Move) → answered p b i a later by ≡ Some next → Stays (below b.stack) b.kept next
  answered_stay b next i a later Grant e =
      subst (λ n. Stays (below b.stack) b.kept n) (cond_some (may_grant b.caps a) (granted b i a later) next e).1 (granted_stay b i a later)
  answered_stay b next i a later Refuse e =
      subst (λ n. Stays (below b.stack) b.kept n) (cond_some (may_refuse p.policy b.caps a) (refused p b i a later) next e).1 (refl, refl)
  answered_stay b next i a later _ e = absurd (none-some next e)

  top_passed : (o : Option Frame) (frames stack : List Frame) → option_map (λ n. settle n ∷ frames) o ≡ Some stack → below stack ≡ frames
  top_passed None frames stack e = absurd (none-some stack e)
  top_passed (Some n) frames stack e = ap below (sym (same_Some (settle n ∷ frames) stack e))

  quiet_stay : (i : Item) (is : Frame) (frames : List Frame) (kept : List (Option Caps)) (caps : Caps) (word : Word) (by : Move) (next : Board) → IsQuiet i is
      → moved p (board_on ((i ∷ is) ∷ frames) kept caps word Free) Free by ≡ Some next → Stays frames kept next
  quiet_stay i is frames kept caps word by next quiet e =
      let b = board_on ((i ∷ is) ∷ frames) kept caps word Free in
      let w = step_of p None b next by (way_of by) refl e in (
        ap (λ (n : Board). below n.stack) (sym w.2.2) ∙ top_passed (after i w.0 is) frames w.2.0 (sym (quiet.passes p.plan frames w.0) ∙ w.2.1),
        ap (λ (n : Board). n.kept) (sym w.2.2) ∙ quiet.keeps None frames kept,
      )

  pub stays : (frame : Frame) (frames : List Frame) (kept : List (Option Caps)) (caps : Caps) (word : Word) (phase : Phase) (by : Move) (spot : Spot) (next : Board) → Sees frame phase spot
      → is_inner spot ≡ true → moved p (board_on (frame ∷ frames) kept caps word phase) phase by ≡ Some next → Stays frames kept next
  stays frame frames kept caps word _ Skip _ next (sees_visit e) inner h = same_stay _ next frames kept h (refl, refl)
  stays frame frames kept caps word _ Try _ next (sees_visit e) inner h = same_stay _ next frames kept h (refl, refl)
  stays frame frames kept caps word _ _ _ next (sees_visit e) inner h = absurd (none-some next h)
  stays frame frames kept caps word _ by _ next (sees_asked {frame = fr} {j = j} {i = i} {a = a} {later = later} e) inner h =
      answered_stay (board_on (frame ∷ frames) kept caps word (Asked i a later)) next i a later by h
  stays _ frames kept caps word _ by _ next (sees_step {i} {is} {n} quiet) inner h = quiet_stay i is frames kept caps word by next quiet h
  stays _ frames kept caps word _ by _ next (sees_branch {i} {is} {m} {n} quiet) inner h = quiet_stay i is frames kept caps word by next quiet h
  stays _ frames kept caps word _ by _ next (sees_label {at} {mark} {j} {l} {s} {is} {n}) inner h =
      let w = step_of p None (board_on ((Todo (Label at mark j l s) ∷ is) ∷ frames) kept caps word Free) next by (way_of by) refl h in
      (ap (λ (n : Board). below n.stack) (sym w.2.2) ∙ top_passed (after (Todo (Label at mark j l s)) w.0 is) frames w.2.0 w.2.1, ap (λ (n : Board). n.kept) (sym w.2.2))
  stays _ frames kept caps word _ by _ next (sees_open {at} {j} {d} {is} {n}) inner h =
      let w = step_of p None (board_on ((Todo (Open at j d) ∷ is) ∷ frames) kept caps word Free) next by (way_of by) refl h in
      (ap (λ (n : Board). below n.stack) (sym w.2.2) ∙ top_passed (after (Todo (Open at j d)) w.0 is) frames w.2.0 w.2.1, ap (λ (n : Board). n.kept) (sym w.2.2))
  stays _ frames kept caps word _ by _ next (sees_close {at} {j} {d} {is} {n}) inner h =
      let w = step_of p None (board_on ((Todo (Close at j d) ∷ is) ∷ frames) kept caps word Free) next by (way_of by) refl h in
      (ap (λ (n : Board). below n.stack) (sym w.2.2) ∙ top_passed (after (Todo (Close at j d)) w.0 is) frames w.2.0 w.2.1, ap (λ (n : Board). n.kept) (sym w.2.2))
  stays _ frames kept caps word _ by _ next sees_call inner h = cc
  stays _ frames kept caps word _ by _ next sees_split inner h = cc
  stays _ frames kept caps word _ by _ next sees_end inner h = cc
