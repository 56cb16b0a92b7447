-- What a move changes.
use Rattle.std.proofs.Common.{◌≡◌, ◌≢◌, ◌⊎◌, inl, inr, ℕ, suc, ◌<◌, ◌≤◌, List, [], ◌∷◌, Bool, true, false, cond, ◌&&◌, ◌++◌, nat_eq, nat_lt, length, Option, Some, None, refl}
use Rattle.std.proofs.Common.{sym, ap, ◌∙◌, subst, arith, eqb-true, eq-eqb}
use Rattle.std.specs.Prelude.{slice_get}
use Rattle.std.proofs.lemmas.Option.{none-some, same_Some, unwrap_or-slice_get}
use Rattle.std.proofs.lemmas.List.{get_or-set_same, get_or-set_other, get_or_past, length-set}
use Rattle.std.proofs.lemmas.Bool.Decides.{nat_tests}
use Rattle.cw_rights.specs.declared.capabilities.Hold.TheVariants.{Closed}
use Rattle.cw_rights.specs.declared.capabilities.Caps.{Caps}
use Rattle.cw_rights.specs.declared.capabilities.Primitive.{Primitive}
use Rattle.cw_rights.specs.declared.capabilities.Primitive.TheVariants.{Limit, Enter, Split}
use Rattle.cw_rights.specs.declared.capabilities.Allowed.{Allowed}
use Rattle.cw_rights.specs.declared.capabilities.Allowed.TheVariants.{Yes, NotCapable, BadDescriptor}
use Rattle.cw_rights.specs.Capabilities.{allowed, applied, closed, hold_of, HasRightIn, HoldsRight, IsAllowed}
use Rattle.cw_rights.specs.Policies.{PlainDescriptor, PlainPolicy, is_refusable}
use Rattle.cw_rights.specs.Words.{Word}
use Rattle.cw_rights.proofs.LawProofs.{never_grow}
use Rattle.cw_certs.specs.declared.moves.Move.{Move}
use Rattle.cw_certs.specs.declared.moves.Move.TheVariants.{Skip, Try, Grant, Refuse, On, Left, Right, Opened, Failed, Stop}
use Rattle.cw_syntax.specs.Plans.{Plain, Break, Continue, Return, Open, Close, Call, Group, Label, If, While, Do, For}
use Rattle.cw_syntax.specs.Frames.{Entry, Todo, Test, After, LoopEnd, End, Frame, Way, pass}
use Rattle.cw_syntax.specs.Frames.{On as OnWay, Left as LeftWay, Right as RightWay, Opened as OpenedWay, Failed as FailedWay}
use Rattle.cw_certs.specs.Tables.{Table}
use Rattle.cw_model.specs.Boards.{Problem, Phase, Visit, Asked, Refused, Free, FreeSplit, Over, Board, primitives_in, onward, begin, start_board, is_yes, may_grant, may_refuse, can_stop}
use Rattle.cw_model.specs.Boards.{with_opened, caps_after, landed, stepped, granted, passed_by, refused, moved, stop_answers, is_refused, Moves, turn_of, way_of, move_of}
use Rattle.cw_model.specs.Runs.{top_by, try_of, refused_with, State, start_state, WovenStep, Goes, last}
use Rattle.cw_model.specs.Laws.{party_of, OnePartyMoves, OverHasNoMove, Follow, last_board, WithoutStop, RefusedIsSkipped, GoingOnIsSkipping, StopsAfterRefusal, EndsSplit}
use Rattle.cw_model.specs.Laws.{CapabilityModeStays, RightsNeverGrow}
use Rattle.std.proofs.lemmas.Bool.{false_from_ne_true as not_true}
use Rattle.cw_lemmas.proofs.Options.{option_map_some as map_some}
use Rattle.std.proofs.lemmas.Option.{cond_some}

-- a board by its parts
abbrev pub board_on : List Frame → List (Option Caps) → Caps → Word → Phase → Board
board_on stack kept caps word phase = record { stack = stack; kept = kept; caps = caps; word = word; phase = phase }

-- the move of a way is a step that goes it
pub way_is : (way : Way) → way_of (move_of way) ≡ Some way
way_is OnWay = refl
way_is LeftWay = refl
way_is RightWay = refl
way_is OpenedWay = refl
way_is FailedWay = refl

-- a primitive that is granted leaves the stack
pub granted_stack : (b : Board) (stage : ℕ) (a : Primitive) (later : List Primitive) → (granted b stage a later).stack ≡ b.stack
granted_stack b stage Split later = refl
granted_stack b stage a later = refl

-- what is asked next isn't the end
pub onward_not_over : (stage : ℕ) (later : List Primitive) → onward stage later ≡ Over → ⊥
onward_not_over stage [] e = cc
onward_not_over stage (a ∷ later) e = cc

party : (p : Problem) (b : Board) (phase : Phase) (m : Move) (next : Board) → moved p b phase m ≡ Some next → turn_of phase ≡ Some (party_of m)
party p b (Visit i a later) Skip next e = refl
party p b (Visit i a later) Try next e = refl
party p b (Asked i a later) Grant next e = refl
party p b (Asked i a later) Refuse next e = refl
party p b (Refused i a later) Skip next e = refl
party p b (Refused i a later) Stop next e = refl
party p b Free On next e = refl
party p b Free Left next e = refl
party p b Free Right next e = refl
party p b Free Opened next e = refl
party p b Free Failed next e = refl
party p b FreeSplit On next e = refl
party p b FreeSplit Left next e = refl
party p b FreeSplit Right next e = refl
party p b FreeSplit Opened next e = refl
party p b FreeSplit Failed next e = refl
party _ _ _ _ next e = absurd (none-some next e)

pub one_party : OnePartyMoves
one_party p b m next h = party p b b.phase m next h.1

over : (p : Problem) (b : Board) (phase : Phase) (m : Move) (next : Board) → phase ≡ Over → moved p b phase m ≡ Some next → ⊥
over p b phase m next e h = none-some next (sym (ap (λ f. moved p b f m) e) ∙ h)

pub over_has_none : OverHasNoMove
over_has_none p b m next e h = over p b b.phase m next e h.1

-- A board that comes in Refused comes by a refusal that can be answered with a stop.
pub onward_on : (i : ℕ) (later : List Primitive) → is_refused (onward i later) ≡ false
onward_on i [] = refl
onward_on i (a ∷ later) = refl

pub begin_on : (policy : PlainPolicy) (stack : List Frame) → is_refused (begin policy stack) ≡ false
begin_on policy [] = refl
begin_on policy (frame ∷ frames) = onward_on 0 (primitives_in policy frame)

granted_on : (b : Board) (i : ℕ) (a : Primitive) (later : List Primitive) → is_refused (granted b i a later).phase ≡ false
granted_on b i (Limit limit) later = onward_on (suc i) later
granted_on b i Enter later = onward_on (suc i) later
granted_on b i Split later = refl

never : {c : Bool} → c ≡ false → c ≡ true → ⊥
never f t = cc

stepped_on : (p : Problem) (mode : Option Caps) (b next : Board) (way : Way) → stepped p mode b (Some way) ≡ Some next → is_refused next.phase ≡ false
stepped_on p mode b next way e =
    let s = map_some (landed p mode b way) (pass p.plan b.stack way) next e in
    subst (λ n. is_refused n.phase ≡ false) s.2 (begin_on p.policy s.0)

refused_by : (i : ℕ) (a : Primitive) (later : List Primitive) (c : Bool) → is_refused (cond c (Refused i a later) (onward (suc i) later)) ≡ true → c ≡ true
refused_by i a later true h = refl
refused_by i a later false h = absurd (never (onward_on (suc i) later) h)

came : (p : Problem) (b : Board) (phase : Phase) (m : Move) (next : Board) → moved p b phase m ≡ Some next → is_refused next.phase ≡ true → stop_answers p.policy b.caps phase m ≡ true
came p b (Visit i a later) Skip next e h = absurd (never (onward_on (suc i) later) (subst (λ n. is_refused n.phase ≡ true) (sym (same_Some (passed_by b i later) next e)) h))
came p b (Visit i a later) Try next e h = let k : Board = record b { phase = Asked i a later } in absurd (never refl (subst (λ n. is_refused n.phase ≡ true) (sym (same_Some k next e)) h))
came p b (Asked i a later) Grant next e h =
    let s = cond_some (may_grant b.caps a) (granted b i a later) next e in
    absurd (never (granted_on b i a later) (subst (λ n. is_refused n.phase ≡ true) (sym s.1) h))
came p b (Asked i a later) Refuse next e h =
    let s = cond_some (may_refuse p.policy b.caps a) (refused p b i a later) next e in
    refused_by i a later (can_stop p.policy b.caps a) (subst (λ n. is_refused n.phase ≡ true) (sym s.1) h)
came p b (Refused i a later) Skip next e h = absurd (never (onward_on (suc i) later) (subst (λ n. is_refused n.phase ≡ true) (sym (same_Some (passed_by b i later) next e)) h))
came p b (Refused i a later) Stop next e h = let k : Board = record b { phase = Over } in absurd (never refl (subst (λ n. is_refused n.phase ≡ true) (sym (same_Some k next e)) h))
came p b Free On next e h = absurd (never (stepped_on p None b next OnWay e) h)
came p b Free Left next e h = absurd (never (stepped_on p None b next LeftWay e) h)
came p b Free Right next e h = absurd (never (stepped_on p None b next RightWay e) h)
came p b Free Opened next e h = absurd (never (stepped_on p None b next OpenedWay e) h)
came p b Free Failed next e h = absurd (never (stepped_on p None b next FailedWay e) h)
came p b FreeSplit On next e h = absurd (never (stepped_on p (Some b.caps) b next OnWay e) h)
came p b FreeSplit Left next e h = absurd (never (stepped_on p (Some b.caps) b next LeftWay e) h)
came p b FreeSplit Right next e h = absurd (never (stepped_on p (Some b.caps) b next RightWay e) h)
came p b FreeSplit Opened next e h = absurd (never (stepped_on p (Some b.caps) b next OpenedWay e) h)
came p b FreeSplit Failed next e h = absurd (never (stepped_on p (Some b.caps) b next FailedWay e) h)
came _ _ _ _ next e h = absurd (none-some next e)

-- A stop comes from Refused alone.
from_refused : (p : Problem) (b : Board) (phase : Phase) (next : Board) → moved p b phase Stop ≡ Some next → is_refused phase ≡ true
from_refused p b (Refused i a later) next e = refl
from_refused p b (Visit i a later) next e = absurd (none-some next e)
from_refused p b (Asked i a later) next e = absurd (none-some next e)
from_refused p b Free next e = absurd (none-some next e)
from_refused p b FreeSplit next e = absurd (none-some next e)
from_refused p b Over next e = absurd (none-some next e)

-- Where the policy has no stop.
no_stop : (policy : PlainPolicy) (caps : Caps) (a : Primitive) → policy.stop ≡ false → can_stop policy caps a ≡ false
no_stop policy caps a e = ap (λ s. s && (is_refusable policy a && may_grant caps a)) e

goes_on : (p : Problem) (b : Board) (i : ℕ) (a : Primitive) (later : List Primitive) → p.policy.stop ≡ false → refused p b i a later ≡ passed_by b i later
goes_on p b i a later e = ap (λ c. record b { phase = cond c (Refused i a later) (onward (suc i) later) }) (no_stop p.policy b.caps a e)

unanswered : (policy : PlainPolicy) → policy.stop ≡ false → (caps : Caps) (phase : Phase) (m : Move) → stop_answers policy caps phase m ≡ false
unanswered policy e caps (Asked i a later) Refuse = no_stop policy caps a e
unanswered policy e caps _ _ = refl

never_refused : (p : Problem) (b : Board) (boards : List Board) → p.policy.stop ≡ false → is_refused b.phase ≡ false → Follow p b boards → is_refused (last_board b boards).phase ≡ false
never_refused p b [] e h f = h
never_refused p b (next ∷ later) e h f =
    let n : is_refused next.phase ≡ false = not_true (is_refused next.phase) (λ r. never (unanswered p.policy e b.caps b.phase f.0.0) (came p b b.phase f.0.0 next f.0.1.1 r)) in
    never_refused p next later e n f.1

pub without_stop : WithoutStop
without_stop p e = record {
  never_refused = λ boards f. never_refused p (start_board p) boards e (begin_on p.policy (start_board p).stack) f;
  never_stops =
      λ boards next f m. never (never_refused p (start_board p) boards e (begin_on p.policy (start_board p).stack) f)
      (from_refused p (last_board (start_board p) boards) (last_board (start_board p) boards).phase next m.1);
  refuses = λ b i a later. ap (λ n. cond (may_refuse p.policy b.caps a) (Some n) None) (goes_on p b i a later e);
  remembers = λ t b ms i a later. ap (λ c. cond c (Some ms) (top_by (λ m. refused_with t (try_of t b i m)) ms)) (no_stop p.policy b.caps a e);
  unanswered = λ caps phase m. unanswered p.policy e caps phase m;
}

skipped_is : (p : Problem) (b : Board) (phase : Phase) (skipped asked next : Board) → p.policy.stop ≡ false → moved p b phase Skip ≡ Some skipped → moved p b phase Try ≡ Some asked
    → moved p asked asked.phase Refuse ≡ Some next → next ≡ skipped
skipped_is p b (Visit i a later) skipped asked next n s t r =
    let k : Board = record b { phase = Asked i a later } in
    let r' : moved p k k.phase Refuse ≡ Some next = subst (λ x. moved p x x.phase Refuse ≡ Some next) (sym (same_Some k asked t)) r in
    sym (cond_some (may_refuse p.policy b.caps a) (refused p b i a later) next r').1 ∙ goes_on p b i a later n ∙ same_Some (passed_by b i later) skipped s
skipped_is p b (Asked i a later) skipped asked next n s t r = absurd (none-some skipped s)
skipped_is p b (Refused i a later) skipped asked next n s t r = absurd (none-some asked t)
skipped_is p b Free skipped asked next n s t r = absurd (none-some skipped s)
skipped_is p b FreeSplit skipped asked next n s t r = absurd (none-some skipped s)
skipped_is p b Over skipped asked next n s t r = absurd (none-some skipped s)

pub refused_is_skipped : RefusedIsSkipped
refused_is_skipped p b skipped asked next n s t r = skipped_is p b b.phase skipped asked next n s.1 t.1 r.1

-- Going on after a refusal.
resumed : (p : Problem) (b next : Board) (i : ℕ) (a : Primitive) (later : List Primitive) (c : Bool) → is_refused (cond c (Refused i a later) (onward (suc i) later)) ≡ true
    → moved p b (cond c (Refused i a later) (onward (suc i) later)) Skip ≡ Some next → passed_by b i later ≡ next
resumed p b next i a later true h e = same_Some (passed_by b i later) next e
resumed p b next i a later false h e = absurd (never (onward_on (suc i) later) h)

going_is : (p : Problem) (b : Board) (phase : Phase) (skipped asked refuse next : Board) → moved p b phase Skip ≡ Some skipped → moved p b phase Try ≡ Some asked
    → moved p asked asked.phase Refuse ≡ Some refuse → is_refused refuse.phase ≡ true → moved p refuse refuse.phase Skip ≡ Some next → next ≡ skipped
going_is p b (Visit i a later) skipped asked refuse next s t r h g =
    let k : Board = record b { phase = Asked i a later } in
    let r' : moved p k k.phase Refuse ≡ Some refuse = subst (λ x. moved p x x.phase Refuse ≡ Some refuse) (sym (same_Some k asked t)) r in
    let q : refused p b i a later ≡ refuse = (cond_some (may_refuse p.policy b.caps a) (refused p b i a later) refuse r').1 in
    let h' : is_refused (refused p b i a later).phase ≡ true = subst (λ x. is_refused x.phase ≡ true) (sym q) h in
    let g' : moved p (refused p b i a later) (refused p b i a later).phase Skip ≡ Some next = subst (λ x. moved p x x.phase Skip ≡ Some next) (sym q) g in
    sym (resumed p (refused p b i a later) next i a later (can_stop p.policy b.caps a) h' g') ∙ same_Some (passed_by b i later) skipped s
going_is p b (Asked i a later) skipped asked refuse next s t r h g = absurd (none-some skipped s)
going_is p b (Refused i a later) skipped asked refuse next s t r h g = absurd (none-some asked t)
going_is p b Free skipped asked refuse next s t r h g = absurd (none-some skipped s)
going_is p b FreeSplit skipped asked refuse next s t r h g = absurd (none-some skipped s)
going_is p b Over skipped asked refuse next s t r h g = absurd (none-some skipped s)

pub going_on_is_skipping : GoingOnIsSkipping
going_on_is_skipping p b skipped asked refuse next s t r h g = going_is p b b.phase skipped asked refuse next s.1 t.1 r.1 h g.1

-- Each stop comes right after a refusal of what could have been granted.
both_true : (x y z : Bool) → x && (y && z) ≡ true → z ≡ true
both_true true true z h = h
both_true true false z h = absurd (never refl h)
both_true false y z h = absurd (never refl h)

grants : (p : Problem) (b : Board) (phase : Phase) (m : Move) → stop_answers p.policy b.caps phase m ≡ true → (m ≡ Refuse) × (next : Board) × (moved p b phase Grant ≡ Some next)
grants p b (Asked i a later) Refuse h =
    (refl, granted b i a later, ap (λ c. cond c (Some (granted b i a later)) None) (both_true p.policy.stop (is_refusable p.policy a) (may_grant b.caps a) h))
grants p b _ _ h = absurd (never refl h)

module _ (p : Problem) (t : Table) where
  abbrev CameRefused : State → List State → Type 0
  CameRefused s run = (before : List State) × (u : State) × (next : Board) × (run ≡ before ++ (u ∷ [])) × WovenStep p t (last s before) Refuse u × Moves p (last s before).board Grant next

  came_last : (s next : State) (later : List State) → Goes p t s (next ∷ later) → is_refused (last next later).board.phase ≡ true → CameRefused s (next ∷ later)
  came_last s next [] g h =
      let w : WovenStep p t s g.0.0 next = g.0.1 in
      let q = grants p s.board s.board.phase g.0.0 (came p s.board s.board.phase g.0.0 next.board w.0.1 h) in
      ([], next, q.1, refl, subst (λ m. WovenStep p t s m next) q.0 w, (w.0.0, q.2))
  came_last s next (n ∷ later) g h =
      let r = came_last next n later g.1 h in
      (next ∷ r.0, r.1, r.2, ap (λ l. next ∷ l) r.3, r.4, r.5)

  came_by : (run : List State) → Goes p t (start_state p t) run → is_refused (last (start_state p t) run).board.phase ≡ true → CameRefused (start_state p t) run
  came_by [] g h = absurd (never (begin_on p.policy (start_board p).stack) h)
  came_by (next ∷ later) g h = came_last (start_state p t) next later g h

pub stops_after_refusal : StopsAfterRefusal
stops_after_refusal p t run stopped g w =
    let s : State = last (start_state p t) run in
    came_by p t run g (from_refused p s.board s.board.phase stopped.board w.0.1)

-- the frame on top ends, and gives these capabilities back
abbrev EndsIn : List Frame → List (Option Caps) → Caps → Type 0
EndsIn stack kept before = (f : ℕ) × (is : Frame) × (frames : List Frame) × (rest : List (Option Caps)) × (stack ≡ (End f ∷ is) ∷ frames) × (kept ≡ Some before ∷ rest)

abbrev GivenBack : List Frame → List (Option Caps) → Caps → Type 0
GivenBack stack kept after = (before : Caps) × EndsIn stack kept before × (after ≡ before)

module _ (Fact : Caps → Caps → Type 0) (same : (c : Caps) → Fact c c) (closing : (c : Caps) (d : ℕ) → Fact c (closed c d)) where
  -- a step changes the capabilities by an open, a close, or the end of a split call
  changes : (policy : PlainPolicy) (stack : List Frame) (kept : List (Option Caps)) (way : Way) (c : Caps) → ((d : ℕ) (o : Option PlainDescriptor) → way ≡ OpenedWay → Fact c (with_opened c d o))
      → Fact c (caps_after policy stack kept way c) ⊎ GivenBack stack kept (caps_after policy stack kept way c)
  changes policy [] kept way c h = inl (same c)
  changes policy ([] ∷ frames) kept way c h = inl (same c)
  changes policy ((Entry f j ∷ is) ∷ frames) kept way c h = inl (same c)
  changes policy ((Todo (Plain at) ∷ is) ∷ frames) kept way c h = inl (same c)
  changes policy ((Todo (Break at) ∷ is) ∷ frames) kept way c h = inl (same c)
  changes policy ((Todo (Continue at) ∷ is) ∷ frames) kept way c h = inl (same c)
  changes policy ((Todo (Return at) ∷ is) ∷ frames) kept way c h = inl (same c)
  changes policy ((Todo (Open at j d) ∷ is) ∷ frames) kept OnWay c h = inl (closing c d)
  changes policy ((Todo (Open at j d) ∷ is) ∷ frames) kept LeftWay c h = inl (closing c d)
  changes policy ((Todo (Open at j d) ∷ is) ∷ frames) kept RightWay c h = inl (closing c d)
  changes policy ((Todo (Open at j d) ∷ is) ∷ frames) kept OpenedWay c h = inl (h d (slice_get policy.descriptors d) refl)
  changes policy ((Todo (Open at j d) ∷ is) ∷ frames) kept FailedWay c h = inl (closing c d)
  changes policy ((Todo (Close at j d) ∷ is) ∷ frames) kept way c h = inl (closing c d)
  changes policy ((Todo (Call at j callee) ∷ is) ∷ frames) kept way c h = inl (same c)
  changes policy ((Todo (Group ss) ∷ is) ∷ frames) kept way c h = inl (same c)
  changes policy ((Todo (Label at mark j l s) ∷ is) ∷ frames) kept way c h = inl (same c)
  changes policy ((Todo (If at s t) ∷ is) ∷ frames) kept way c h = inl (same c)
  changes policy ((Todo (While at s) ∷ is) ∷ frames) kept way c h = inl (same c)
  changes policy ((Todo (Do at s) ∷ is) ∷ frames) kept way c h = inl (same c)
  changes policy ((Todo (For at init decided stepped' s) ∷ is) ∷ frames) kept way c h = inl (same c)
  changes policy ((Test at decided stepped' s ∷ is) ∷ frames) kept way c h = inl (same c)
  changes policy ((After at ∷ is) ∷ frames) kept way c h = inl (same c)
  changes policy ((LoopEnd ∷ is) ∷ frames) kept way c h = inl (same c)
  changes policy ((End f ∷ is) ∷ frames) [] way c h = inl (same c)
  changes policy ((End f ∷ is) ∷ frames) (None ∷ kept) way c h = inl (same c)
  changes policy ((End f ∷ is) ∷ frames) (Some before ∷ kept) way c h = inr (before, (f, is, frames, kept, refl, refl), refl)

  -- what a move makes of the capabilities
  module _ (granting : (c : Caps) (a : Primitive) → may_grant c a ≡ true → Fact c (applied c a)) where
    stepping : (p : Problem) (mode : Option Caps) (b next : Board) (way : Way) → ((d : ℕ) (o : Option PlainDescriptor) → way ≡ OpenedWay → Fact b.caps (with_opened b.caps d o))
        → stepped p mode b (Some way) ≡ Some next → Fact b.caps next.caps ⊎ GivenBack b.stack b.kept next.caps
    stepping p mode b next way h e =
        let s = map_some (landed p mode b way) (pass p.plan b.stack way) next e in
        subst (λ n. Fact b.caps n.caps ⊎ GivenBack b.stack b.kept n.caps) s.2 (changes p.policy b.stack b.kept way b.caps h)

    answering : (p : Problem) (b next : Board) (i : ℕ) (a : Primitive) (later : List Primitive) → may_grant b.caps a ≡ true → Fact b.caps (granted b i a later).caps
    answering p b next i (Limit limit) later e = granting b.caps (Limit limit) e
    answering p b next i Enter later e = granting b.caps Enter e
    answering p b next i Split later e = same b.caps

    -- by each move but an open that succeeds
    moving : (p : Problem) (b : Board) (phase : Phase) (m : Move) (next : Board) → ((d : ℕ) (o : Option PlainDescriptor) → m ≡ Opened → Fact b.caps (with_opened b.caps d o))
        → moved p b phase m ≡ Some next → Fact b.caps next.caps ⊎ GivenBack b.stack b.kept next.caps
    moving p b (Visit i a later) Skip next h e = subst (λ n. Fact b.caps n.caps ⊎ GivenBack b.stack b.kept n.caps) (same_Some (passed_by b i later) next e) (inl (same b.caps))
    moving p b (Visit i a later) Try next h e =
        let k : Board = record b { phase = Asked i a later } in subst (λ n. Fact b.caps n.caps ⊎ GivenBack b.stack b.kept n.caps) (same_Some k next e) (inl (same b.caps))
    moving p b (Asked i a later) Grant next h e =
        let s = cond_some (may_grant b.caps a) (granted b i a later) next e in subst (λ n. Fact b.caps n.caps ⊎ GivenBack b.stack b.kept n.caps) s.1 (inl (answering p b next i a later s.0))
    moving p b (Asked i a later) Refuse next h e =
        let s = cond_some (may_refuse p.policy b.caps a) (refused p b i a later) next e in subst (λ n. Fact b.caps n.caps ⊎ GivenBack b.stack b.kept n.caps) s.1 (inl (same b.caps))
    moving p b (Refused i a later) Skip next h e = subst (λ n. Fact b.caps n.caps ⊎ GivenBack b.stack b.kept n.caps) (same_Some (passed_by b i later) next e) (inl (same b.caps))
    moving p b (Refused i a later) Stop next h e =
        let k : Board = record b { phase = Over } in subst (λ n. Fact b.caps n.caps ⊎ GivenBack b.stack b.kept n.caps) (same_Some k next e) (inl (same b.caps))
    moving p b Free On next h e = stepping p None b next OnWay (λ d o q. absurd (cc)) e
    moving p b Free Left next h e = stepping p None b next LeftWay (λ d o q. absurd (cc)) e
    moving p b Free Right next h e = stepping p None b next RightWay (λ d o q. absurd (cc)) e
    moving p b Free Opened next h e = stepping p None b next OpenedWay (λ d o q. h d o refl) e
    moving p b Free Failed next h e = stepping p None b next FailedWay (λ d o q. absurd (cc)) e
    moving p b FreeSplit On next h e = stepping p (Some b.caps) b next OnWay (λ d o q. absurd (cc)) e
    moving p b FreeSplit Left next h e = stepping p (Some b.caps) b next LeftWay (λ d o q. absurd (cc)) e
    moving p b FreeSplit Right next h e = stepping p (Some b.caps) b next RightWay (λ d o q. absurd (cc)) e
    moving p b FreeSplit Opened next h e = stepping p (Some b.caps) b next OpenedWay (λ d o q. h d o refl) e
    moving p b FreeSplit Failed next h e = stepping p (Some b.caps) b next FailedWay (λ d o q. absurd (cc)) e
    moving _ _ _ _ next h e = absurd (none-some next e)

abbrev StaysIn : Caps → Caps → Type 0
StaysIn c after = c.amb ≡ false → after.amb ≡ false

stays_granted : (c : Caps) (a : Primitive) → may_grant c a ≡ true → StaysIn c (applied c a)
stays_granted c (Limit limit) e h = h
stays_granted c Enter e h = refl
stays_granted c Split e h = h

stays_opened : (c : Caps) (d : ℕ) (o : Option PlainDescriptor) → StaysIn c (with_opened c d o)
stays_opened c d None h = h
stays_opened c d (Some descriptor) h = h

pub mode_stays : CapabilityModeStays
mode_stays p b m next h closed_in = by (moving StaysIn (λ c e. e) (λ c d e. e) stays_granted p b b.phase m next (λ d o e. stays_opened b.caps d o) h.1)
  where
    by : (StaysIn b.caps next.caps ⊎ GivenBack b.stack b.kept next.caps) → (next.caps.amb ≡ false) ⊎ ((before : Caps) × EndsSplit b before × (next.caps ≡ before))
    by (inl s) = inl (s closed_in)
    by (inr g) = inr g

abbrev Shrinks : Caps → Caps → Type 0
Shrinks c after = (d right : ℕ) → HoldsRight after d right → HoldsRight c d right

is_allowed : (c : Caps) (a : Primitive) → may_grant c a ≡ true → IsAllowed c a
is_allowed c (Limit limit) e = by (allowed c limit) refl
  where
    by : (x : Allowed) → allowed c limit ≡ x → allowed c limit ≡ Yes
    by Yes q = q
    by NotCapable q = let z : is_yes NotCapable ≡ true = sym (ap is_yes q) ∙ e in absurd (cc)
    by BadDescriptor q = let z : is_yes BadDescriptor ≡ true = sym (ap is_yes q) ∙ e in absurd (cc)
is_allowed c Enter e = tt
is_allowed c Split e = tt

hold_closed : (c : Caps) (d : ℕ) → hold_of (closed c d) d ≡ Closed
hold_closed c d = by (nat_lt d (length c.holds)) refl
  where
    by : (t : Bool) → nat_lt d (length c.holds) ≡ t → hold_of (closed c d) d ≡ Closed
    by true q = let l : d < length c.holds = grind (arith, nat_tests) in unwrap_or-slice_get (closed c d).holds d Closed ∙ get_or-set_same c.holds d Closed Closed l
    by false q = let l : length (closed c d).holds ≤ d = grind (arith, nat_tests, length-set) in unwrap_or-slice_get (closed c d).holds d Closed ∙ get_or_past (closed c d).holds d Closed l

shrinks_closed : (c : Caps) (d : ℕ) → Shrinks c (closed c d)
shrinks_closed c d e right h = by (nat_eq e d) refl
  where
    by : (t : Bool) → nat_eq e d ≡ t → HoldsRight c e right
    by true q =
        let s : e ≡ d = eqb-true e d q in
        let z : hold_of (closed c d) e ≡ Closed = ap (hold_of (closed c d)) s ∙ hold_closed c d in
        absurd (subst (λ x. HasRightIn x right) z h)
    by false q =
        let n : e ≢ d = λ r. let z = eq-eqb e d r in cc in
        let z : hold_of (closed c d) e ≡ hold_of c e = unwrap_or-slice_get (closed c d).holds e Closed ∙ get_or-set_other c.holds d e Closed Closed n ∙ sym (unwrap_or-slice_get c.holds e Closed) in
        subst (λ x. HasRightIn x right) z h

pub never_grow_by_moves : RightsNeverGrow
never_grow_by_moves p b m next h = by m refl
  where
    shrinks : (m ≢ Opened) → Shrinks b.caps next.caps ⊎ GivenBack b.stack b.kept next.caps
    shrinks n = moving Shrinks (λ c d right x. x) shrinks_closed (λ c a e. never_grow c a (is_allowed c a e)) p b b.phase m next (λ d o e. absurd (n e)) h.1

    split : (Shrinks b.caps next.caps ⊎ GivenBack b.stack b.kept next.caps) → Shrinks b.caps next.caps ⊎ ((m ≡ Opened) ⊎ ((before : Caps) × EndsSplit b before × (next.caps ≡ before)))
    split (inl s) = inl s
    split (inr g) = inr (inr g)

    by : (k : Move) → m ≡ k → Shrinks b.caps next.caps ⊎ ((m ≡ Opened) ⊎ ((before : Caps) × EndsSplit b before × (next.caps ≡ before)))
    by Opened e = inr (inl e)
    by Skip e = split (shrinks (λ z. cc))
    by Try e = split (shrinks (λ z. cc))
    by Grant e = split (shrinks (λ z. cc))
    by Refuse e = split (shrinks (λ z. cc))
    by On e = split (shrinks (λ z. cc))
    by Left e = split (shrinks (λ z. cc))
    by Right e = split (shrinks (λ z. cc))
    by Failed e = split (shrinks (λ z. cc))
    by Stop e = split (shrinks (λ z. cc))
