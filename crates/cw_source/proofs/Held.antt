-- Working definitions: the items of a statement, of a function and of a program. What a path passes is one of the program's.
use Rattle.std.proofs.Common.{◌≡◌, ◌⊎◌, ℕ, Bool, true, false, List, [], ◌∷◌, ◌++◌, Option, Some, None, slice_get, refl, subst, inl, inr}
use Rattle.std.proofs.lemmas.Option.{same_Some}
use Rattle.std.specs.Prelude.{option_map}
use Rattle.cw_syntax.specs.Plans.{Stm, Plain, Break, Continue, Return, Open, Close, Call, Group, Label, If, While, Do, For, Stms, end, then, Routine, Plan}
use Rattle.cw_syntax.specs.Frames.{Item, Entry, Todo, Test, After, LoopEnd, End, Frame, items_of, new_frame, frame_of, init_if, after_if, expanded, expanded_all, settle, Way, front}
use Rattle.cw_syntax.specs.Frames.{PathFrom, stack_of, start_stack}
use Rattle.cw_syntax.specs.Steps.{Ends, no_items, an_end, an_entry, a_statement, a_test, a_step, a_loops_end, Passes, entry, plain, left, right, goes_in, goes_out, goes_on, step}
use Rattle.cw_syntax.specs.Steps.{break_out, continue_at, return_at, label, expanded as opened_way, failed, close, Steps, within, call, returns, over}
use Rattle.cw_syntax.proofs.Settling.{settles_to}
use Rattle.cw_syntax.proofs.Tabled.{tabled}
use Rattle.cw_source.specs.Items.{IsPassed}

abbrev pub HasInit : Option ℕ → Item → Type 0
HasInit None x = ⊥
HasInit (Some at) x = x ≡ Todo (Plain at)

-- the items of a statement
abbrev mutual
  pub Has : Stm → Item → Type 0
  Has (Plain at) x = x ≡ Todo (Plain at)
  Has (Break at) x = x ≡ Todo (Break at)
  Has (Continue at) x = x ≡ Todo (Continue at)
  Has (Return at) x = x ≡ Todo (Return at)
  Has (Open at j d) x = x ≡ Todo (Open at j d)
  Has (Close at j d) x = x ≡ Todo (Close at j d)
  Has (Call at j callee) x = x ≡ Todo (Call at j callee)
  Has (Group ss) x = HasAll ss x
  Has (Label at mark j l s) x = (x ≡ Todo (Label at mark j l s)) ⊎ Has s x
  Has (If at s t) x = (x ≡ Todo (If at s t)) ⊎ (Has s x ⊎ Has t x)
  Has (While at s) x = (x ≡ Test at true false s) ⊎ Has s x
  Has (Do at s) x = (x ≡ Test at true false s) ⊎ Has s x
  Has (For at init decided stepped s) x = ((x ≡ Test at decided stepped s) ⊎ (x ≡ After at)) ⊎ (HasInit init x ⊎ Has s x)

  pub HasAll : Stms → Item → Type 0
  HasAll end x = ⊥
  HasAll (then s ss) x = Has s x ⊎ HasAll ss x

abbrev pub HasOf : ℕ → Routine → Item → Type 0
HasOf f r x = (x ≡ Entry f r.seam) ⊎ (HasAll r.body x ⊎ (x ≡ End f))

abbrev pub HasIn : Plan → Item → Type 0
HasIn plan x = (f : ℕ) × (r : Routine) × (slice_get plan.routines f ≡ Some r) × HasOf f r x

module _ (plan : Plan) where
  -- what an item still brings is the program's
  abbrev Kept : Item → Type 0
  Kept (Entry f j) = HasIn plan (Entry f j)
  Kept (Todo s) = (x : Item) → Has s x → HasIn plan x
  Kept (Test at decided stepped s) = HasIn plan (Test at decided stepped s) × (stepped ≡ true → HasIn plan (After at)) × ((x : Item) → Has s x → HasIn plan x)
  Kept (After at) = HasIn plan (After at)
  Kept LoopEnd = Unit {0}
  Kept (End f) = HasIn plan (End f)

  abbrev AllKept : Frame → Type 0
  AllKept [] = Unit {0}
  AllKept (i ∷ is) = Kept i × AllKept is

  -- the item at the front is the program's
  abbrev Front : Frame → Type 0
  Front [] = Unit {0}
  Front (i ∷ is) = HasIn plan i

  items_kept : (ss : Stms) (rest : Frame) → ((x : Item) → HasAll ss x → HasIn plan x) → AllKept rest → AllKept (items_of ss rest)
  items_kept end rest h k = k
  items_kept (then s ss) rest h k = ((λ x q. h x (inl q)), items_kept ss rest (λ x q. h x (inr q)) k)

  init_kept : (init : Option ℕ) (rest : Frame) → ((x : Item) → HasInit init x → HasIn plan x) → AllKept rest → AllKept (init_if init rest)
  init_kept None rest h k = k
  init_kept (Some at) rest h k = (h, k)

  after_kept : (stepped : Bool) (at : ℕ) (rest : Frame) → (stepped ≡ true → HasIn plan (After at)) → AllKept rest → AllKept (after_if stepped at rest)
  after_kept true at rest h k = (h refl, k)
  after_kept false at rest h k = k

  unstepped : (x : Item) → false ≡ true → HasIn plan x
  unstepped x q = absurd (cc)

  init_front : (init : Option ℕ) (i : Item) (rest : Frame) → ((x : Item) → HasInit init x → HasIn plan x) → HasIn plan i → Front (init_if init (i ∷ rest))
  init_front None i rest h k = k
  init_front (Some at) i rest h k = h (Todo (Plain at)) refl

  mutual
    expanded_kept : (s : Stm) (rest next : Frame) → ((x : Item) → Has s x → HasIn plan x) → AllKept rest → AllKept next → AllKept (expanded s rest next)
    expanded_kept (Plain at) rest next h k n = (h, k)
    expanded_kept (Break at) rest next h k n = (h, k)
    expanded_kept (Continue at) rest next h k n = (h, k)
    expanded_kept (Return at) rest next h k n = (h, k)
    expanded_kept (Open at j d) rest next h k n = (h, k)
    expanded_kept (Close at j d) rest next h k n = (h, k)
    expanded_kept (Call at j callee) rest next h k n = (h, k)
    expanded_kept (Group ss) rest next h k n = expanded_all_kept ss rest next h k n
    expanded_kept (Label at mark j l s) rest next h k n = (h, k)
    expanded_kept (If at s t) rest next h k n = (h, k)
    expanded_kept (While at s) rest next h k n = ((h (Test at true false s) (inl refl), unstepped (After at), λ x q. h x (inr q)), (tt, k))
    expanded_kept (Do at s) rest next h k n =
        let test : AllKept (Test at true false s ∷ (LoopEnd ∷ rest)) = ((h (Test at true false s) (inl refl), unstepped (After at), λ x q. h x (inr q)), (tt, k)) in
        expanded_kept s (Test at true false s ∷ (LoopEnd ∷ rest)) (Test at true false s ∷ (LoopEnd ∷ rest)) (λ x q. h x (inr q)) test test
    expanded_kept (For at init decided stepped s) rest next h k n =
        init_kept init (Test at decided stepped s ∷ (LoopEnd ∷ rest)) (λ x q. h x (inr (inl q)))
        ((h (Test at decided stepped s) (inl (inl refl)), (λ q. h (After at) (inl (inr refl))), λ x q. h x (inr (inr q))), (tt, k))

    expanded_all_kept : (ss : Stms) (rest next : Frame) → ((x : Item) → HasAll ss x → HasIn plan x) → AllKept rest → AllKept next → AllKept (expanded_all ss rest next)
    expanded_all_kept end rest next h k n = n
    expanded_all_kept (then s ss) rest next h k n =
        expanded_kept s (items_of ss rest) (expanded_all ss rest next) (λ x q. h x (inl q)) (items_kept ss rest (λ x q. h x (inr q)) k)
        (expanded_all_kept ss rest next (λ x q. h x (inr q)) k n)

  mutual
    expanded_front : (s : Stm) (rest next : Frame) → ((x : Item) → Has s x → HasIn plan x) → Front next → Front (expanded s rest next)
    expanded_front (Plain at) rest next h n = h (Todo (Plain at)) refl
    expanded_front (Break at) rest next h n = h (Todo (Break at)) refl
    expanded_front (Continue at) rest next h n = h (Todo (Continue at)) refl
    expanded_front (Return at) rest next h n = h (Todo (Return at)) refl
    expanded_front (Open at j d) rest next h n = h (Todo (Open at j d)) refl
    expanded_front (Close at j d) rest next h n = h (Todo (Close at j d)) refl
    expanded_front (Call at j callee) rest next h n = h (Todo (Call at j callee)) refl
    expanded_front (Group ss) rest next h n = expanded_all_front ss rest next h n
    expanded_front (Label at mark j l s) rest next h n = h (Todo (Label at mark j l s)) (inl refl)
    expanded_front (If at s t) rest next h n = h (Todo (If at s t)) (inl refl)
    expanded_front (While at s) rest next h n = h (Test at true false s) (inl refl)
    expanded_front (Do at s) rest next h n = expanded_front s (Test at true false s ∷ (LoopEnd ∷ rest)) (Test at true false s ∷ (LoopEnd ∷ rest)) (λ x q. h x (inr q)) (h (Test at true false s) (inl refl))
    expanded_front (For at init decided stepped s) rest next h n =
        init_front init (Test at decided stepped s) (LoopEnd ∷ rest) (λ x q. h x (inr (inl q))) (h (Test at decided stepped s) (inl (inl refl)))

    expanded_all_front : (ss : Stms) (rest next : Frame) → ((x : Item) → HasAll ss x → HasIn plan x) → Front next → Front (expanded_all ss rest next)
    expanded_all_front end rest next h n = n
    expanded_all_front (then s ss) rest next h n = expanded_front s (items_of ss rest) (expanded_all ss rest next) (λ x q. h x (inl q)) (expanded_all_front ss rest next (λ x q. h x (inr q)) n)

  settle_kept : (frame : Frame) → AllKept frame → AllKept (settle frame)
  settle_kept [] k = tt
  settle_kept (Entry f j ∷ rest) k = k
  settle_kept (Todo s ∷ rest) k = expanded_kept s rest (settle rest) k.0 k.1 (settle_kept rest k.1)
  settle_kept (Test at decided stepped s ∷ rest) k = k
  settle_kept (After at ∷ rest) k = k
  settle_kept (LoopEnd ∷ rest) k = settle_kept rest k.1
  settle_kept (End f ∷ rest) k = k

  settle_front : (frame : Frame) → AllKept frame → Front (settle frame)
  settle_front [] k = tt
  settle_front (Entry f j ∷ rest) k = k.0
  settle_front (Todo s ∷ rest) k = expanded_front s rest (settle rest) k.0 (settle_front rest k.1)
  settle_front (Test at decided stepped s ∷ rest) k = k.0.0
  settle_front (After at ∷ rest) k = k.0
  settle_front (LoopEnd ∷ rest) k = settle_front rest k.1
  settle_front (End f ∷ rest) k = k.0

  -- ---- steps

  behind : (before rest : Frame) → AllKept (before ++ rest) → AllKept rest
  behind [] rest k = k
  behind (i ∷ before) rest k = behind before rest k.1

  ends_kept : (rest ends : Frame) → Ends rest ends → AllKept rest → AllKept ends
  ends_kept _ _ no_items k = tt
  ends_kept _ _ (an_end f rest ends h) k = (k.0, ends_kept rest ends h k.1)
  ends_kept _ _ (an_entry f j rest ends h) k = ends_kept rest ends h k.1
  ends_kept _ _ (a_statement s rest ends h) k = ends_kept rest ends h k.1
  ends_kept _ _ (a_test at d u s rest ends h) k = ends_kept rest ends h k.1
  ends_kept _ _ (a_step at rest ends h) k = ends_kept rest ends h k.1
  ends_kept _ _ (a_loops_end rest ends h) k = ends_kept rest ends h k.1

  raw_kept : (i : Item) (way : Way) (rest raw : Frame) → Passes i way rest raw → Kept i → AllKept rest → AllKept raw
  raw_kept _ _ _ _ (entry f j rest) h k = k
  raw_kept _ _ _ _ (plain at rest) h k = k
  raw_kept _ _ _ _ (left at s t rest) h k = ((λ x q. h x (inr (inl q))), k)
  raw_kept _ _ _ _ (right at s t rest) h k = ((λ x q. h x (inr (inr q))), k)
  raw_kept _ _ _ _ (goes_in at u s rest) h k = (h.2, after_kept u at (Test at true u s ∷ rest) h.1 (h, k))
  raw_kept _ _ _ _ (goes_out at u s rest) h k = k
  raw_kept _ _ _ _ (goes_on at u s rest) h k = (h.2, after_kept u at (Test at false u s ∷ rest) h.1 (h, k))
  raw_kept _ _ _ _ (step at rest) h k = k
  raw_kept _ _ _ _ (break_out at before rest none) h k = (behind before (LoopEnd ∷ rest) k).1
  raw_kept _ _ _ _ (continue_at at before rest none turn) h k = behind before rest k
  raw_kept _ _ _ _ (return_at at rest ends es) h k = ends_kept rest ends es k
  raw_kept _ _ _ _ (label at mark j l s rest) h k = ((λ x q. h x (inr q)), k)
  raw_kept _ _ _ _ (opened_way at j d rest) h k = k
  raw_kept _ _ _ _ (failed at j d rest) h k = k
  raw_kept _ _ _ _ (close at j d rest) h k = k

  abbrev Frames : List Frame → Type 0
  Frames [] = Unit {0}
  Frames (frame ∷ frames) = AllKept frame × Frames frames

  abbrev Good : List Frame → Type 0
  Good [] = Unit {0}
  Good (frame ∷ frames) = Front frame × AllKept frame × Frames frames

  new_kept : (f : ℕ) (r : Routine) → slice_get plan.routines f ≡ Some r → AllKept (new_frame f r)
  new_kept f r is = ((f, r, is, inl refl), items_kept r.body (End f ∷ []) (λ x q. (f, r, is, inr (inl q))) ((f, r, is, inr (inr refl)), tt))

  frame_kept : (f : ℕ) (frame : Frame) → frame_of plan f ≡ Some frame → Front frame × AllKept frame
  frame_kept f frame is = by_routine (slice_get plan.routines f) refl is where
    by_routine : (o : Option Routine) → slice_get plan.routines f ≡ o → option_map (new_frame f) o ≡ Some frame → Front frame × AllKept frame
    by_routine None q g = absurd (cc)
    by_routine (Some r) q g = subst (λ (z : Frame). Front z × AllKept z) (same_Some (new_frame f r) frame g) ((f, r, q, inl refl), new_kept f r q)

  good_step : (stack : List Frame) (i : Item) (way : Way) (next : List Frame) → Steps plan stack i way next → Good stack → Good next
  good_step _ _ _ _ (within i way rest raw next frames passes settles) g =
      let kept = raw_kept i way rest raw passes g.1.0 g.1.1 in
      subst (λ (z : Frame). Good (z ∷ frames)) (settles_to raw next settles) (settle_front raw kept, settle_kept raw kept, g.2)
  good_step _ _ _ _ (call at j callee rest frame frames is) g = let new = frame_kept callee.number frame is in (new.0, new.1, (g.1, g.2))
  good_step _ _ _ _ (returns f is caller rest next frames settles) g =
      let kept = g.2.0.1 in
      subst (λ (z : Frame). Good (z ∷ frames)) (settles_to rest next settles) (settle_front rest kept, settle_kept rest kept, g.2.1)
  good_step _ _ _ _ (over f is) g = tt

  front_in : (stack : List Frame) (x : Item) → front stack ≡ x ∷ [] → Good stack → HasIn plan x
  front_in [] x is g = absurd (cc)
  front_in ([] ∷ frames) x is g = absurd (cc)
  front_in ((i ∷ rest) ∷ frames) x is g = let same : i ≡ x = cc in subst (λ (z : Item). HasIn plan z) same g.0

  path_in : (before : List Item) (x : Item) (stack : List Frame) → PathFrom plan stack (before ++ x ∷ []) → Good stack → HasIn plan x
  path_in [] x stack (way, next, is, passed, more) g = front_in stack x is g
  path_in (i ∷ before) x stack (way, next, is, passed, more) g = path_in before x next more (good_step stack i way next ((tabled plan stack next i way).0 (is, passed)) g)

  start_good : Good (start_stack plan)
  start_good = by_routine (slice_get plan.routines plan.main) refl where
    by_routine : (o : Option Routine) → slice_get plan.routines plan.main ≡ o → Good (stack_of (option_map (new_frame plan.main) o))
    by_routine None q = tt
    by_routine (Some r) q = ((plan.main, r, q, inl refl), new_kept plan.main r q, tt)

  pub passed_in : (x : Item) → IsPassed plan x → HasIn plan x
  passed_in x (before, path) = path_in before x (start_stack plan) path start_good
