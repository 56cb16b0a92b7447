-- The front of a frame: what it is once its primitives are passed, and where it leads.
use Rattle.std.proofs.Common.{◌≡◌, ℕ, zero, suc, ◌+◌, ◌<◌, List, [], ◌∷◌, map, length, Contains, Bool, true, false, cond, Option, Some, None, refl, sym, subst, ⊎_elim, option_map, arith}
use Rattle.std.specs.Prelude.{slice_get}
use Rattle.std.proofs.lemmas.Option.{none-some}
use Rattle.std.proofs.lemmas.List.Elements.{Contains-append_left, Contains-append_right, Contains-append_cases}
use Rattle.cw_rights.specs.declared.capabilities.Caps.{Caps}
use Rattle.cw_rights.specs.declared.capabilities.Limit.{Limit as ALimit}
use Rattle.cw_rights.specs.declared.capabilities.Primitive.{Primitive}
use Rattle.cw_rights.specs.declared.capabilities.Primitive.TheVariants.{Limit, Enter, Split}
use Rattle.cw_rights.specs.Policies.{PlainPolicy, primitives}
use Rattle.cw_certs.specs.declared.moves.Move.{Move}
use Rattle.cw_certs.specs.Tables.{Table}
use Rattle.cw_syntax.specs.Plans.{Callee, Stm, Plain, Break, Continue, Return, Open, Close, Call, Group, Label, If, While, Do, For, Plan}
use Rattle.cw_syntax.specs.Frames.{Item, Entry, Todo, Test, After, LoopEnd, End, Frame, after_if, settle, ended, Way, On, Left, Right, Opened, Failed, after, pass, settled}
use Rattle.cw_model.specs.Boards.{seam_in, primitives_in, letters_in, kept_after, caps_after}
use Rattle.cw_model.specs.Runs.{step_memories}
use Rattle.cw_game.specs.declared.spots.Spot.{Spot}
use Rattle.cw_game.specs.declared.spots.Spot.TheVariants.{Step, Branch, Exit, Label as LabelSpot, Open as OpenSpot, Close as CloseSpot}
use Rattle.cw_game.specs.Places.{Visits, CallsAt, AtIn, At}
use Rattle.cw_game.specs.Standing.{FreeAt, IsSplitCall, Within, Stage}
use Rattle.cw_game.proofs.Places.{at_broken, at_continued, at_ended, at_body}
use Rattle.cw_lemmas.proofs.Lists.{contains_none as none_in}

-- a front with a seam is settled
pub seam_settled : (frame : Frame) (j : ℕ) → seam_in frame ≡ Some j → settled frame ≡ true
seam_settled [] j e = refl
seam_settled (Entry f k ∷ is) j e = refl
seam_settled (Todo (Label at mark k l s) ∷ is) j e = refl
seam_settled (Todo (Open at k d) ∷ is) j e = refl
seam_settled (Todo (Close at k d) ∷ is) j e = refl
seam_settled (Todo (Call at k callee) ∷ is) j e = refl
seam_settled _ j e = absurd (none-some j e)

-- The primitives of a front.
no_limit_splits : (limits : List ALimit) → Contains (map (λ limit. Limit limit) limits) Split → ⊥
no_limit_splits [] h = absurd (omega (arith, h.1))
no_limit_splits (l ∷ limits) (zero, lt, e) = cc
no_limit_splits (l ∷ limits) (suc k, lt, e) = no_limit_splits limits (k, omega (arith, lt), e)

pub split_last : (is_split : Bool) → Contains (Enter ∷ cond is_split (Split ∷ []) []) Split → is_split ≡ true
split_last true h = refl
split_last false (zero, lt, e) = cc
split_last false (suc k, lt, e) = absurd (omega (arith, lt))

pub splits_only : (pol : PlainPolicy) (is_split : Bool) → Contains (primitives pol is_split) Split → is_split ≡ true
splits_only pol is_split h =
    ⊎_elim (λ l. absurd (no_limit_splits pol.limits l)) (λ r. split_last is_split r)
    (Contains-append_cases (map (λ limit. Limit limit) pol.limits) (Enter ∷ cond is_split (Split ∷ []) []) Split h)

with_split : (a : Primitive) (is_split : Bool) → Contains (Enter ∷ cond is_split (Split ∷ []) []) a → Contains (Enter ∷ (Split ∷ [])) a
with_split a true h = h
with_split a false (zero, lt, e) = (0, omega arith, e)
with_split a false (suc k, lt, e) = absurd (omega (arith, lt))

pub among_all : (pol : PlainPolicy) (is_split : Bool) (a : Primitive) → Contains (primitives pol is_split) a → Contains (primitives pol true) a
among_all pol is_split a h =
    let limits = map (λ (limit : ALimit). Limit limit) pol.limits in
    ⊎_elim (λ l. Contains-append_left limits (Enter ∷ (Split ∷ [])) a l) (λ r. Contains-append_right limits (Enter ∷ (Split ∷ [])) a (with_split a is_split r))
    (Contains-append_cases limits (Enter ∷ cond is_split (Split ∷ []) []) a h)

-- each is one of the policy's
pub in_policy : (pol : PlainPolicy) (frame : Frame) (a : Primitive) → Contains (primitives_in pol frame) a → Contains (primitives pol true) a
in_policy pol (Entry f j ∷ is) a h = among_all pol false a h
in_policy pol (Todo (Label at mark j l s) ∷ is) a h = among_all pol false a h
in_policy pol (Todo (Call at j callee) ∷ is) a h = among_all pol callee.split a h
in_policy pol _ a h = absurd (none_in a h)

unsplit : (pol : PlainPolicy) → Contains (primitives pol false) Split → ⊥
unsplit pol h = let e = splits_only pol false h in cc

-- a split is one only at a call that may be split
pub split_is_call : (pol : PlainPolicy) (frame : Frame) → Contains (primitives_in pol frame) Split → IsSplitCall frame
split_is_call pol (Entry f j ∷ is) h = unsplit pol h
split_is_call pol (Todo (Label at mark j l s) ∷ is) h = unsplit pol h
split_is_call pol (Todo (Call at j callee) ∷ is) h = splits_only pol callee.split h
split_is_call pol _ h = absurd (none_in Split h)

pub within_first : (pol : PlainPolicy) (frame : Frame) (a : Primitive) (later : List Primitive) → Within pol frame (a ∷ later) → Contains (primitives_in pol frame) a
within_first pol frame a later h = h a (0, omega arith, refl)

pub within_rest : (pol : PlainPolicy) (frame : Frame) (a : Primitive) (later : List Primitive) → Within pol frame (a ∷ later) → Within pol frame later
within_rest pol frame a later h = λ b at. let lt = at.1 in h b (suc at.0, omega (arith, lt), at.2)

pub next_stage : (g : List Spot) (pol : PlainPolicy) (x : ℕ) (frame : Frame) (i : ℕ) (a : Primitive) (later : List Primitive) (p : ℕ) → Stage g pol x frame i (a ∷ later) p
    → Stage g pol x frame (suc i) later (p + 2)
next_stage g pol x frame i a later p s = (s.0, s.1, s.2, s.3, s.4.3, within_rest pol frame a later s.5)

last_at : (g : List Spot) (i j p z : ℕ) (later : List Primitive) → later ≡ [] → Visits g j i later p z → p ≡ z
last_at g i j p z [] e h = h
last_at g i j p z (a ∷ later) e h = cc

-- after a split the free position follows
pub after_split : (g : List Spot) (pol : PlainPolicy) (x : ℕ) (frame : Frame) (i : ℕ) (later : List Primitive) (p : ℕ) → (s : Stage g pol x frame i (Split ∷ later) p) → p + 2 ≡ s.0
after_split g pol x frame i later p s = last_at g (suc i) s.1 (p + 2) s.0 later s.4.2 s.4.3

-- A front that has one way or two on, and that no seam has: what it leaves alone.
pub record IsQuiet (i : Item) (is : Frame) : Type 0 where
  pub passes : (plan : Plan) (frames : List Frame) (way : Way) → pass plan ((i ∷ is) ∷ frames) way ≡ option_map (λ next. settle next ∷ frames) (after i way is)
  pub says : (caps : Caps) → letters_in (i ∷ is) caps ≡ []
  pub keeps : (mode : Option Caps) (frames : List Frame) (kept : List (Option Caps)) → kept_after mode ((i ∷ is) ∷ frames) kept ≡ kept
  pub holds : (policy : PlainPolicy) (frames : List Frame) (kept : List (Option Caps)) (way : Way) (caps : Caps) → caps_after policy ((i ∷ is) ∷ frames) kept way caps ≡ caps
  pub remembers : (t : Table) (split : Bool) (by : Move) (frames : List Frame) (kept : List (Option Caps)) (ms : List ℕ) → step_memories t split by ((i ∷ is) ∷ frames) kept ms ≡ Some ms

abbrev is_quiet : Item → Bool
is_quiet (Todo (Label at mark j l s)) = false
is_quiet (Todo (Open at j d)) = false
is_quiet (Todo (Close at j d)) = false
is_quiet (Todo (Call at j callee)) = false
is_quiet (End f) = false
is_quiet _ = true

quiet : (i : Item) (is : Frame) → is_quiet i ≡ true → IsQuiet i is
quiet (Todo (Label at mark j l s)) is e = cc
quiet (Todo (Open at j d)) is e = cc
quiet (Todo (Close at j d)) is e = cc
quiet (Todo (Call at j callee)) is e = cc
quiet (End f) is e = cc
quiet i is e =
    record { passes = λ plan frames way. refl; says = λ caps. refl; keeps = λ mode frames kept. refl; holds = λ policy frames kept way caps. refl; remembers = λ t split by frames kept ms. refl }

-- the ways on of a front with one, and of one with two
abbrev pub on_only : Frame → Way → Option Frame
on_only next On = Some next
on_only next _ = None

abbrev pub either : Frame → Frame → Way → Option Frame
either left right Left = Some left
either left right Right = Some right
either left right _ = None

by_ways : (f h : Way → Option Frame) → f On ≡ h On → f Left ≡ h Left → f Right ≡ h Right → f Opened ≡ h Opened → f Failed ≡ h Failed → (way : Way) → f way ≡ h way
by_ways f h e0 e1 e2 e3 e4 On = e0
by_ways f h e0 e1 e2 e3 e4 Left = e1
by_ways f h e0 e1 e2 e3 e4 Right = e2
by_ways f h e0 e1 e2 e3 e4 Opened = e3
by_ways f h e0 e1 e2 e3 e4 Failed = e4

-- What a free front is, with its spot at p.
pub data Front (g : List Spot) (pol : PlainPolicy) (x p : ℕ) : Frame → Type 0 where
  is_step : {i : Item} {is : Frame} (next : Frame) {n : ℕ} → IsQuiet i is → ((way : Way) → after i way is ≡ on_only next way) → slice_get g p ≡ Some (Step n) → At g pol x next n
      → Front g pol x p (i ∷ is)
  is_branch : {i : Item} {is : Frame} (left right : Frame) {m n : ℕ} → IsQuiet i is → ((way : Way) → after i way is ≡ either left right way) → slice_get g p ≡ Some (Branch m n)
      → At g pol x left m → At g pol x right n → Front g pol x p (i ∷ is)
  is_label : {at mark j l : ℕ} {s : Stm} {is : Frame} {n : ℕ} → slice_get g p ≡ Some (LabelSpot j l n) → At g pol x (Todo s ∷ is) n → Front g pol x p (Todo (Label at mark j l s) ∷ is)
  is_open : {at j d : ℕ} {is : Frame} {n : ℕ} → d < length pol.descriptors → slice_get g p ≡ Some (OpenSpot j d n) → At g pol x is n → Front g pol x p (Todo (Open at j d) ∷ is)
  is_close : {at j d : ℕ} {is : Frame} {n : ℕ} → d < length pol.descriptors → slice_get g p ≡ Some (CloseSpot j d n) → At g pol x is n → Front g pol x p (Todo (Close at j d) ∷ is)
  is_call : {at j : ℕ} {callee : Callee} {is : Frame} {n : ℕ} → CallsAt g j callee p n → At g pol x is n → Front g pol x p (Todo (Call at j callee) ∷ is)
  is_end : {f : ℕ} {is : Frame} → slice_get g p ≡ Some (Exit f) → p ≡ x → Front g pol x p (End f ∷ is)

module _ (g : List Spot) (pol : PlainPolicy) (x : ℕ) where
  front_test : (b c : Option ℕ) (at : ℕ) (decided stepped : Bool) (s : Stm) (is : Frame) (p : ℕ) → AtIn g pol x b c (Test at decided stepped s ∷ is) p
      → Front g pol x p (Test at decided stepped s ∷ is)
  front_test b c at true stepped s is p h =
      let w = h.1 in
      let r : AtIn g pol x (Some w.2) None is w.2 = subst (λ z. AtIn g pol x z None is w.2) w.6 w.7 in
      is_branch (Todo s ∷ after_if stepped at (Test at true stepped s ∷ is)) is (quiet (Test at true stepped s) is refl)
      (by_ways (λ way. after (Test at true stepped s) way is) (either (Todo s ∷ after_if stepped at (Test at true stepped s ∷ is)) is) refl refl refl refl refl) w.3
      (at_body g pol x b c at true stepped s is p w.0 w.1 w.2 w.3 w.4 w.5 r) (Some w.2, None, r)
  front_test b c at false stepped s is p h =
      let w = h.1 in
      let r : AtIn g pol x (Some w.2) None is w.2 = subst (λ z. AtIn g pol x z None is w.2) w.6 w.7 in
      is_step (Todo s ∷ after_if stepped at (Test at false stepped s ∷ is)) (quiet (Test at false stepped s) is refl)
      (by_ways (λ way. after (Test at false stepped s) way is) (on_only (Todo s ∷ after_if stepped at (Test at false stepped s ∷ is))) refl refl refl refl refl) w.3
      (at_body g pol x b c at false stepped s is p w.0 w.1 w.2 w.3 w.4 w.5 r)

  pub front_of : (frame : Frame) (p : ℕ) → FreeAt g pol x frame p → settled frame ≡ true → Front g pol x p frame
  front_of [] p h t = absurd h.2
  front_of (Entry f j ∷ is) p h t =
      is_step is (quiet (Entry f j) is refl)
      (by_ways (λ way. after (Entry f j) way is) (on_only is) refl refl refl refl refl) h.2.1 (h.0, h.1, h.2.2)
  front_of (Todo (Plain at) ∷ is) p h t =
      is_step is (quiet (Todo (Plain at)) is refl)
      (by_ways (λ way. after (Todo (Plain at)) way is) (on_only is) refl refl refl refl refl) h.2.1 (h.0, h.1, h.2.2)
  front_of (Todo (Break at) ∷ is) p h t =
      let w = h.2.1 in
      let k = at_broken g pol x is h.0 h.1 h.2.0 w.0 h.2.2 w.1 in
      is_step k.0 (quiet (Todo (Break at)) is refl)
      (by_ways (λ way. after (Todo (Break at)) way is) (on_only k.0) k.1 refl refl refl refl) w.2 k.2
  front_of (Todo (Continue at) ∷ is) p h t =
      let w = h.2.1 in
      let k = at_continued g pol x is h.0 h.1 h.2.0 w.0 h.2.2 w.1 in
      is_step k.0 (quiet (Todo (Continue at)) is refl)
      (by_ways (λ way. after (Todo (Continue at)) way is) (on_only k.0) k.1 refl refl refl refl) w.2 k.2
  front_of (Todo (Return at) ∷ is) p h t =
      is_step (ended is) (quiet (Todo (Return at)) is refl)
      (by_ways (λ way. after (Todo (Return at)) way is) (on_only (ended is)) refl refl refl refl refl) h.2.1 (at_ended g pol x is h.0 h.1 h.2.0 h.2.2)
  front_of (Todo (Open at j d) ∷ is) p h t = is_open h.2.1.0 h.2.1.1 (h.0, h.1, h.2.2)
  front_of (Todo (Close at j d) ∷ is) p h t = is_close h.2.1.0 h.2.1.1 (h.0, h.1, h.2.2)
  front_of (Todo (Call at j callee) ∷ is) p h t = is_call h.2.1 (h.0, h.1, h.2.2)
  front_of (Todo (Group ss) ∷ is) p h t = cc
  front_of (Todo (Label at mark j l s) ∷ is) p h t = is_label h.2.1.1 (h.0, h.1, (h.2.0, h.2.1.2, h.2.2))
  front_of (Todo (If at s u) ∷ is) p h t =
      let w = h.2.1 in
      is_branch (Todo s ∷ is) (Todo u ∷ is) (quiet (Todo (If at s u)) is refl)
      (by_ways (λ way. after (Todo (If at s u)) way is) (either (Todo s ∷ is) (Todo u ∷ is)) refl refl refl refl refl) w.2
      (h.0, h.1, (h.2.0, w.3, h.2.2)) (h.0, h.1, (h.2.0, w.4, h.2.2))
  front_of (Todo (While at s) ∷ is) p h t = cc
  front_of (Todo (Do at s) ∷ is) p h t = cc
  front_of (Todo (For at init decided stepped s) ∷ is) p h t = cc
  front_of (Test at decided stepped s ∷ is) p h t = front_test h.0 h.1 at decided stepped s is p h.2
  front_of (After at ∷ is) p h t =
      let w = h.2.1 in
      is_step is (quiet (After at) is refl)
      (by_ways (λ way. after (After at) way is) (on_only is) refl refl refl refl refl) w.1 (h.0, Some w.0, w.2)
  front_of (LoopEnd ∷ is) p h t = cc
  front_of (End f ∷ is) p h t = is_end (subst (λ n. slice_get g n ≡ Some (Exit f)) (sym h.2.2) h.2.3) h.2.2
