-- What is kept of the file's values is what they are, in every state of a woven run.
use Rattle.std.proofs.Common.{◌≡◌, ℕ, ℤ, List, [], ◌∷◌, Bool, true, false, ◌||◌, Option, Some, None, refl, sym, subst, ◌∙◌}
use Rattle.std.specs.Prelude.{slice_get, is_some, unwrap_or, option_map}
use Rattle.std.specs.List.{Contains}
use Rattle.std.proofs.lemmas.Option.{same_Some, none-some}
use Rattle.cw_lemmas.proofs.Options.{option_map_some}
use Rattle.cw_lemmas.proofs.Lists.{contains_none}
use Rattle.cw_rights.specs.Policies.{PlainPolicy}
use Rattle.cw_syntax.specs.declared.program.Name.{Name}
use Rattle.cw_syntax.specs.Names.{text}
use Rattle.cw_syntax.specs.Trees.{Definition}
use Rattle.cw_syntax.specs.Plans.{Callee, Plain, Break, Continue, Return, Open, Close, Call, Group, Label, If, While, Do, For, Routine}
use Rattle.cw_syntax.specs.Frames.{Item, Entry, Todo, Test, After, LoopEnd, End, Frame, new_frame, frame_of, settle, Way, On, Left, Right, Opened, Failed, after, popped, pushed, pass}
use Rattle.cw_model.specs.Boards.{problem_of}
use Rattle.cw_callgraph.specs.Effects.{calls, calls_of}
use Rattle.cw_callgraph.specs.Fitting.{Fits}
use Rattle.cw_value.specs.Stores.{Cell, Store}
use Rattle.cw_value.specs.Expressions.{Memory, Outcome, gives, stops, location_of, Target, OwnSpot, SharedSpot, Nothing, stored, target_at}
use Rattle.cw_value.specs.Deeds.{Passing, deed_of, does}
use Rattle.cw_value.specs.Machines.{Source, Locals, Machine, goes, step, step_by, within, by_outcome, entered, settled_in, answering, deed_in, scope_in, function, memory, saved_if, ends_in, call_in, back_by, result_by, taken_over, taken_by, form_in, whole_from}
use Rattle.cw_agree.proofs.Keeps.{does_keeps}
use Rattle.cw_agree.proofs.Grows.{left_by, ends_left}
use Rattle.cw_agree.proofs.Plain.{SavedIs, TopSaved, shared_back}
use Rattle.cw_agree.proofs.Paired.{has_split, front_primitives, Invariant, same_goes}
use Rattle.cw_agree.proofs.Forbidden.{IsSpared}
use Rattle.cw_agree.proofs.Bodies.{deeds_quiet}
use Rattle.cw_agree.proofs.Calls.{FrameHas, settle_has, HasIf, after_has}
use Rattle.cw_agree.proofs.Fenced.{SharedSame, sparing, split_there, plan, QuietReach, reach_on, Called, routine_at, new_called}

-- some frame keeps the file's values
abbrev pub keeps_some : List Locals → Bool
keeps_some [] = false
keeps_some (l ∷ ls) = is_some l.saved || keeps_some ls

or_none : (o : Option Store) (b : Bool) → (is_some o || b) ≡ false → (o ≡ None) × (b ≡ false)
or_none None b e = (refl, e)
or_none (Some x) b e = absurd (cc)

or_later : (o : Option Store) (b : Bool) → b ≡ true → (is_some o || b) ≡ true
or_later None b e = e
or_later (Some x) b e = refl

module _ (policy : PlainPolicy) (s : Source) (fits : Fits s.bytes s.file policy) where
  -- each frame of the stack has its values, and its calls are calls of its function
  abbrev pub Aligned : List Frame → List Locals → Type 0
  Aligned [] ls = Unit {0}
  Aligned (frame ∷ frames) [] = ⊥
  Aligned (frame ∷ frames) (l ∷ ls) = FrameHas (λ at c. Called policy s fits l.function c) frame × Aligned frames ls

  -- what a frame keeps of the file's values is what they are; a function that runs above such a frame changes none of them
  abbrev pub Fenced : Store → List Locals → Type 0
  Fenced g [] = Unit {0}
  Fenced g (l ∷ ls) = SavedIs g l.saved × (keeps_some (l ∷ ls) ≡ true → QuietReach policy s l.function) × Fenced g ls

  abbrev pub Inv : List Frame → Machine → Type 0
  Inv stack m = Aligned stack m.frames × Fenced m.shared m.frames

  -- where none is kept they may change
  free_fence : (g h : Store) (ls : List Locals) → keeps_some ls ≡ false → Fenced g ls → Fenced h ls
  free_fence g h [] e f = tt
  free_fence g h (l ∷ ls) e f =
      let r = or_none l.saved (keeps_some ls) e in
      (subst (SavedIs h) (sym r.0) tt, f.1, free_fence g h ls r.1 f.2)

  move_fence : (g h : Store) (ls : List Locals) → (keeps_some ls ≡ true → h ≡ g) → Fenced g ls → Fenced h ls
  move_fence g h ls same f = by_kept (keeps_some ls) refl where
    by_kept : (b : Bool) → keeps_some ls ≡ b → Fenced h ls
    by_kept true e = subst (λ x. Fenced x ls) (sym (same e)) f
    by_kept false e = free_fence g h ls e f

  -- ---- a deed of the top frame

  deed_spares : (n : ℕ) (i : Item) (mem : Memory) (o : Option Definition) → slice_get s.file.functions n ≡ o → QuietReach policy s n → (left_by (deed_in o i (scope_in s o) mem)).shared ≡ mem.shared
  deed_spares n i mem None e q = refl
  deed_spares n i mem (Some f) e q =
      let scope = scope_in s (Some f) in
      ends_left SharedSame IsSpared sparing mem (does scope (deed_of f i) mem) (does_keeps SharedSame IsSpared sparing scope (deed_of f i) mem (deeds_quiet s f (q.0 f e) i))

  abbrev outcome : Item → Machine → Locals → Outcome Passing
  outcome i m top = deed_in (function s top.function) i (scope_in s (function s top.function)) (memory m top)

  top_spared : (i : Item) (m : Machine) (top : Locals) (rest : List Locals) → Fenced m.shared (top ∷ rest) → keeps_some (top ∷ rest) ≡ true → (left_by (outcome i m top)).shared ≡ m.shared
  top_spared i m top rest f k = deed_spares top.function i (memory m top) (function s top.function) refl (f.1 k)

  -- what a step of the top frame does that isn't a call
  abbrev Enters : Bool → Item → Type 0
  Enters split i = (p : Passing) (m : Machine) → entered s split i p m ≡ m

  on_top : (split : Bool) (i : Item) (is : Frame) (frames : List Frame) (g : Store) (top : Locals) (rest : List Locals) (way : Way) (m2 : Machine) (next : List Frame) (o : Outcome Passing)
      → Enters split i → (keeps_some (top ∷ rest) ≡ true → (left_by o).shared ≡ g) → Aligned ((i ∷ is) ∷ frames) (top ∷ rest) → Fenced g (top ∷ rest)
      → by_outcome s split i top rest o ≡ goes way m2 → option_map (λ x. settle x ∷ frames) (after i way is) ≡ Some next → Inv next m2
  on_top split i is frames g top rest way m2 next (stops x k) plain same a f st ps = absurd (cc)
  on_top split i is frames g top rest way m2 next (gives p k) plain same a f st ps =
      let new = settled_in k (answering p.answer top) rest in
      let is_new = sym (plain p new) ∙ (same_goes s (problem_of policy s.bytes s.file) p.way way (entered s split i p new) m2 st).1 in
      let r = option_map_some (λ x. settle x ∷ frames) (after i way is) next ps in
      let frame : FrameHas (λ at c. Called policy s fits top.function c) r.0 =
      subst (HasIf (λ at c. Called policy s fits top.function c)) r.1 (after_has (λ at c. Called policy s fits top.function c) i way is a.0.0 a.0.1) in
      let aligned : Aligned (settle r.0 ∷ frames) new.frames = (settle_has (λ at c. Called policy s fits top.function c) r.0 frame, a.1) in
      let fenced : Fenced k.shared (top ∷ rest) = move_fence g k.shared (top ∷ rest) same f in
      subst (λ x. Inv next x) is_new (subst (λ x. Inv x new) r.2 (aligned, fenced))

  -- a call
  quiet_new : (split : Bool) (n c : ℕ) (callee : Callee) (top : Locals) (rest : List Locals) (g : Store) → (split ≡ true → callee.split ≡ true) → Called policy s fits top.function callee
      → (keeps_some (top ∷ rest) ≡ true → QuietReach policy s top.function) → (is_some (saved_if split g) || keeps_some (top ∷ rest)) ≡ true → QuietReach policy s callee.number
  quiet_new true n c callee top rest g sp called q e = called.split (sp refl)
  quiet_new false n c callee top rest g sp called q e = reach_on policy s top.function callee.number (q e) called.reaches

  saved_new : (split : Bool) (g : Store) → SavedIs g (saved_if split g)
  saved_new true g = refl
  saved_new false g = tt

  on_call : (split : Bool) (at j : ℕ) (callee : Callee) (is : Frame) (frames : List Frame) (g : Store) (top : Locals) (rest : List Locals) (m2 : Machine) (next : List Frame) (o : Outcome Passing)
      → (split ≡ true → callee.split ≡ true) → (keeps_some (top ∷ rest) ≡ true → (left_by o).shared ≡ g)
      → Aligned ((Todo (Call at j callee) ∷ is) ∷ frames) (top ∷ rest) → Fenced g (top ∷ rest)
      → by_outcome s split (Todo (Call at j callee)) top rest o ≡ goes On m2 → pushed (plan policy s) callee ((Todo (Call at j callee) ∷ is) ∷ frames) ≡ Some next → Inv next m2
  on_call split at j callee is frames g top rest m2 next (stops x k) sp same a f st ps = absurd (cc)
  on_call split at j callee is frames g top rest m2 next (gives p k) sp same a f st ps =
      let stack = (Todo (Call at j callee) ∷ is) ∷ frames in
      let settled = settled_in k (answering p.answer top) rest in
      let new = entered s split (Todo (Call at j callee)) p settled in
      let is_new = (same_goes s (problem_of policy s.bytes s.file) p.way On new m2 st).1 in
      let r = option_map_some (λ x. x ∷ stack) (frame_of (plan policy s) callee.number) next ps in
      let q = option_map_some (new_frame callee.number) (slice_get (plan policy s).routines callee.number) r.0 r.1 in
      let fenced : Fenced k.shared (top ∷ rest) = move_fence g k.shared (top ∷ rest) same f in
      let frame : FrameHas (λ at2 c. Called policy s fits callee.number c) r.0 =
      subst (FrameHas (λ at2 c. Called policy s fits callee.number c)) q.2 (new_called policy s fits callee.number q.0 q.1) in
      let aligned : Aligned (r.0 ∷ stack) new.frames = (frame, a) in
      let all : Fenced k.shared new.frames = (saved_new split k.shared, quiet_new split at j callee top rest k.shared sp a.0.0 f.1, fenced) in
      subst (λ x. Inv next x) is_new (subst (λ x. Inv x new) r.2 (aligned, all))

  -- ---- the end of a frame

  defined_of : (n g : ℕ) → Contains (calls (plan policy s) n) g → (f : Definition) × (slice_get s.file.functions n ≡ Some f)
  defined_of n g c = by_routine (slice_get (plan policy s).routines n) refl where
    by_routine : (o : Option Routine) → slice_get (plan policy s).routines n ≡ o → (f : Definition) × (slice_get s.file.functions n ≡ Some f)
    by_routine None e = absurd (contains_none g (subst (λ o. Contains (calls_of o) g) e c))
    by_routine (Some r) e = let k = routine_at policy s 0 s.file.functions n r e in (k.definition, k.defined)

  result_spared : (callee : Callee) (caller : Locals) (rest : List Locals) (g : Store) (x : Name) → callee.result ≡ Some x → Called policy s fits caller.function callee → Fenced g (caller ∷ rest)
      → keeps_some (caller ∷ rest) ≡ true → IsSpared (target_at (location_of (scope_in s (function s caller.function)) (text s.bytes x)))
  result_spared callee caller rest g x e called f k =
      let d = defined_of caller.function callee.number called.reaches in
      subst (λ o. IsSpared (target_at (location_of (scope_in s o) (text s.bytes x)))) (sym d.1) (called.result x d.0 e d.1 (f.1 k).0)

  on_target : (at : ℕ) (t : Target) (z : ℤ) (stack : List Frame) (caller : Locals) (rest : List Locals) (m1 m2 : Machine)
      → (keeps_some (caller ∷ rest) ≡ true → IsSpared t) → Aligned stack (caller ∷ rest) → Fenced m1.shared (caller ∷ rest)
      → taken_by at t z caller rest m1 ≡ goes On m2 → Inv stack m2
  on_target at (OwnSpot p) z [] caller rest m1 m2 sp a f st =
      let new = settled_in (stored (memory m1 caller) (OwnSpot p) z) caller rest in
      subst (λ x. Inv [] x) (same_goes s (problem_of policy s.bytes s.file) On On new m2 st).1 (tt, f)
  on_target at (OwnSpot p) z (frame ∷ frames) caller rest m1 m2 sp a f st =
      let new = settled_in (stored (memory m1 caller) (OwnSpot p) z) caller rest in
      subst (λ x. Inv (frame ∷ frames) x) (same_goes s (problem_of policy s.bytes s.file) On On new m2 st).1 (a, f)
  on_target at (SharedSpot p) z [] caller rest m1 m2 sp a f st =
      let new = settled_in (stored (memory m1 caller) (SharedSpot p) z) caller rest in
      subst (λ x. Inv [] x) (same_goes s (problem_of policy s.bytes s.file) On On new m2 st).1 (tt, move_fence m1.shared new.shared (caller ∷ rest) (λ k. absurd (sp k)) f)
  on_target at (SharedSpot p) z (frame ∷ frames) caller rest m1 m2 sp a f st =
      let new = settled_in (stored (memory m1 caller) (SharedSpot p) z) caller rest in
      subst (λ x. Inv (frame ∷ frames) x) (same_goes s (problem_of policy s.bytes s.file) On On new m2 st).1 (a, move_fence m1.shared new.shared (caller ∷ rest) (λ k. absurd (sp k)) f)
  on_target at Nothing z stack caller rest m1 m2 sp a f st = absurd (cc)

  on_answer : (at : ℕ) (callee : Callee) (x : Name) (c : Cell) (stack : List Frame) (caller : Locals) (rest : List Locals) (m1 m2 : Machine) → callee.result ≡ Some x
      → Called policy s fits caller.function callee → Aligned stack (caller ∷ rest) → Fenced m1.shared (caller ∷ rest) → taken_over s at x c caller rest m1 ≡ goes On m2 → Inv stack m2
  on_answer at callee x None stack caller rest m1 m2 e called a f st = absurd (cc)
  on_answer at callee x (Some z) stack caller rest m1 m2 e called a f st =
      on_target (whole_from at (form_in (function s caller.function) at)) (target_at (location_of (scope_in s (function s caller.function)) (text s.bytes x))) z stack caller rest m1 m2
      (result_spared callee caller rest m1.shared x e called f) a f st

  on_result : (at : ℕ) (callee : Callee) (o : Option Name) (c : Cell) (stack : List Frame) (caller : Locals) (rest : List Locals) (m1 m2 : Machine) → callee.result ≡ o
      → Called policy s fits caller.function callee → Aligned stack (caller ∷ rest) → Inv stack m1 → Fenced m1.shared (caller ∷ rest) → result_by s at o c caller rest m1 ≡ goes On m2 → Inv stack m2
  on_result at callee None c stack caller rest m1 m2 e called a v f st = subst (λ x. Inv stack x) (same_goes s (problem_of policy s.bytes s.file) On On m1 m2 st).1 v
  on_result at callee (Some x) c stack caller rest m1 m2 e called a v f st = on_answer at callee x c stack caller rest m1 m2 e called a f st

  no_result : (stack : List Frame) (m1 m2 : Machine) → Inv stack m1 → goes On m1 ≡ goes On m2 → Inv stack m2
  no_result stack m1 m2 v st = subst (λ x. Inv stack x) (same_goes s (problem_of policy s.bytes s.file) On On m1 m2 st).1 v

  on_back : (call : Item) (r : Frame) (top caller : Locals) (stack : List Frame) (rest : List Locals) (m1 m2 : Machine) → FrameHas (λ at c. Called policy s fits caller.function c) (call ∷ r)
      → Aligned stack (caller ∷ rest) → Inv stack m1 → Fenced m1.shared (caller ∷ rest) → back_by s (call_in (call ∷ r)) top caller rest m1 ≡ goes On m2 → Inv stack m2
  on_back (Todo (Call at j callee)) r top caller stack rest m1 m2 h a v f st = on_result at callee callee.result top.answer stack caller rest m1 m2 refl h.0 a v f st
  on_back (Entry g j) r top caller stack rest m1 m2 h a v f st = no_result stack m1 m2 v st
  on_back (Test at d u b) r top caller stack rest m1 m2 h a v f st = no_result stack m1 m2 v st
  on_back (After at) r top caller stack rest m1 m2 h a v f st = no_result stack m1 m2 v st
  on_back LoopEnd r top caller stack rest m1 m2 h a v f st = no_result stack m1 m2 v st
  on_back (End g) r top caller stack rest m1 m2 h a v f st = no_result stack m1 m2 v st
  on_back (Todo (Plain at)) r top caller stack rest m1 m2 h a v f st = no_result stack m1 m2 v st
  on_back (Todo (Break at)) r top caller stack rest m1 m2 h a v f st = no_result stack m1 m2 v st
  on_back (Todo (Continue at)) r top caller stack rest m1 m2 h a v f st = no_result stack m1 m2 v st
  on_back (Todo (Return at)) r top caller stack rest m1 m2 h a v f st = no_result stack m1 m2 v st
  on_back (Todo (Open at j d)) r top caller stack rest m1 m2 h a v f st = no_result stack m1 m2 v st
  on_back (Todo (Close at j d)) r top caller stack rest m1 m2 h a v f st = no_result stack m1 m2 v st
  on_back (Todo (Group ss)) r top caller stack rest m1 m2 h a v f st = no_result stack m1 m2 v st
  on_back (Todo (Label at k j l b)) r top caller stack rest m1 m2 h a v f st = no_result stack m1 m2 v st
  on_back (Todo (If at b c)) r top caller stack rest m1 m2 h a v f st = no_result stack m1 m2 v st
  on_back (Todo (While at b)) r top caller stack rest m1 m2 h a v f st = no_result stack m1 m2 v st
  on_back (Todo (Do at b)) r top caller stack rest m1 m2 h a v f st = no_result stack m1 m2 v st
  on_back (Todo (For at i d u b)) r top caller stack rest m1 m2 h a v f st = no_result stack m1 m2 v st

  on_end : (frames : List Frame) (m : Machine) (ls : List Locals) (m2 : Machine) (next : List Frame) → Fenced m.shared m.frames → Fenced m.shared ls
      → (top : Locals) (rest : List Locals) → ls ≡ top ∷ rest → Aligned frames rest
      → ends_in s frames m (top ∷ rest) ≡ goes On m2 → popped frames ≡ Some next → Inv next m2
  on_end [] m ls m2 next whole f top rest e a st ps = subst (λ x. Inv x m2) (same_Some [] next ps) (no_result [] m m2 (tt, whole) st)
  on_end ([] ∷ frames) m ls m2 next whole f top rest e a st ps = absurd (none-some next ps)
  on_end ((call ∷ r) ∷ frames) m ls m2 next whole f top [] e a st ps = absurd a
  on_end ((call ∷ r) ∷ frames) m ls m2 next whole f top (caller ∷ rest) e a st ps =
      let m1 : Machine = record m { shared = unwrap_or top.saved m.shared; frames = caller ∷ rest } in
      let all : Fenced m.shared (top ∷ (caller ∷ rest)) = subst (Fenced m.shared) e f in
      let fenced : Fenced m1.shared (caller ∷ rest) = subst (λ x. Fenced x (caller ∷ rest)) (sym (shared_back s m.shared top.saved all.0)) all.2 in
      let aligned : Aligned (settle r ∷ frames) (caller ∷ rest) = (settle_has (λ at c. Called policy s fits caller.function c) r a.0.1, a.1) in
      subst (λ x. Inv x m2) (same_Some (settle r ∷ frames) next ps)
      (on_back call r top caller (settle r ∷ frames) rest m1 m2 a.0 aligned (aligned, fenced) fenced st)

  -- ---- any step

  at_within : (split : Bool) (i : Item) (is : Frame) (frames : List Frame) (m : Machine) (ls : List Locals) (way : Way) (m2 : Machine) (next : List Frame)
      → Enters split i → Aligned ((i ∷ is) ∷ frames) ls → Fenced m.shared ls
      → within s split i m ls ≡ goes way m2 → option_map (λ x. settle x ∷ frames) (after i way is) ≡ Some next → Inv next m2
  at_within split i is frames m [] way m2 next plain a f st ps = absurd a
  at_within split i is frames m (top ∷ rest) way m2 next plain a f st ps =
      on_top split i is frames m.shared top rest way m2 next (outcome i m top) plain (top_spared i m top rest f) a f st ps

  at_call : (split : Bool) (at j : ℕ) (callee : Callee) (is : Frame) (frames : List Frame) (m : Machine) (ls : List Locals) (m2 : Machine) (next : List Frame)
      → (split ≡ true → callee.split ≡ true) → Aligned ((Todo (Call at j callee) ∷ is) ∷ frames) ls → Fenced m.shared ls
      → within s split (Todo (Call at j callee)) m ls ≡ goes On m2 → pushed (plan policy s) callee ((Todo (Call at j callee) ∷ is) ∷ frames) ≡ Some next → Inv next m2
  at_call split at j callee is frames m [] m2 next sp a f st ps = absurd a
  at_call split at j callee is frames m (top ∷ rest) m2 next sp a f st ps =
      on_call split at j callee is frames m.shared top rest m2 next (outcome (Todo (Call at j callee)) m top) sp (top_spared (Todo (Call at j callee)) m top rest f) a f st ps

  at_end : (g : ℕ) (is : Frame) (frames : List Frame) (m : Machine) (ls : List Locals) (m2 : Machine) (next : List Frame) → Fenced m.shared m.frames → Fenced m.shared ls
      → Aligned ((End g ∷ is) ∷ frames) ls → ends_in s frames m ls ≡ goes On m2 → popped frames ≡ Some next → Inv next m2
  at_end g is frames m [] m2 next whole f a st ps = absurd a
  at_end g is frames m (top ∷ rest) m2 next whole f a st ps = on_end frames m (top ∷ rest) m2 next whole f top rest refl a.1 st ps

  item_kept : (split : Bool) (i : Item) (is : Frame) (frames : List Frame) (m : Machine) (way : Way) (m2 : Machine) (next : List Frame)
      → (split ≡ true → has_split (front_primitives policy ((i ∷ is) ∷ frames)) ≡ true)
      → Inv ((i ∷ is) ∷ frames) m → step_by s split i frames m ≡ goes way m2 → pass (plan policy s) ((i ∷ is) ∷ frames) way ≡ Some next → Inv next m2
  item_kept split (Todo (Call at j callee)) is frames m On m2 next sp v st ps = at_call split at j callee is frames m m.frames m2 next (λ e. split_there policy callee.split (sp e)) v.0 v.1 st ps
  item_kept split (Todo (Call at j callee)) is frames m Left m2 next sp v st ps = absurd (none-some next ps)
  item_kept split (Todo (Call at j callee)) is frames m Right m2 next sp v st ps = absurd (none-some next ps)
  item_kept split (Todo (Call at j callee)) is frames m Opened m2 next sp v st ps = absurd (none-some next ps)
  item_kept split (Todo (Call at j callee)) is frames m Failed m2 next sp v st ps = absurd (none-some next ps)
  item_kept split (End g) is frames m On m2 next sp v st ps = at_end g is frames m m.frames m2 next v.1 v.1 v.0 st ps
  item_kept split (End g) is frames m Left m2 next sp v st ps = absurd (none-some next ps)
  item_kept split (End g) is frames m Right m2 next sp v st ps = absurd (none-some next ps)
  item_kept split (End g) is frames m Opened m2 next sp v st ps = absurd (none-some next ps)
  item_kept split (End g) is frames m Failed m2 next sp v st ps = absurd (none-some next ps)
  item_kept split (Entry g j) is frames m way m2 next sp v st ps = at_within split (Entry g j) is frames m m.frames way m2 next (λ p k. refl) v.0 v.1 st ps
  item_kept split (Test at d u b) is frames m way m2 next sp v st ps = at_within split (Test at d u b) is frames m m.frames way m2 next (λ p k. refl) v.0 v.1 st ps
  item_kept split (After at) is frames m way m2 next sp v st ps = at_within split (After at) is frames m m.frames way m2 next (λ p k. refl) v.0 v.1 st ps
  item_kept split LoopEnd is frames m way m2 next sp v st ps = at_within split LoopEnd is frames m m.frames way m2 next (λ p k. refl) v.0 v.1 st ps
  item_kept split (Todo (Plain at)) is frames m way m2 next sp v st ps = at_within split (Todo (Plain at)) is frames m m.frames way m2 next (λ p k. refl) v.0 v.1 st ps
  item_kept split (Todo (Break at)) is frames m way m2 next sp v st ps = at_within split (Todo (Break at)) is frames m m.frames way m2 next (λ p k. refl) v.0 v.1 st ps
  item_kept split (Todo (Continue at)) is frames m way m2 next sp v st ps = at_within split (Todo (Continue at)) is frames m m.frames way m2 next (λ p k. refl) v.0 v.1 st ps
  item_kept split (Todo (Return at)) is frames m way m2 next sp v st ps = at_within split (Todo (Return at)) is frames m m.frames way m2 next (λ p k. refl) v.0 v.1 st ps
  item_kept split (Todo (Open at j d)) is frames m way m2 next sp v st ps = at_within split (Todo (Open at j d)) is frames m m.frames way m2 next (λ p k. refl) v.0 v.1 st ps
  item_kept split (Todo (Close at j d)) is frames m way m2 next sp v st ps = at_within split (Todo (Close at j d)) is frames m m.frames way m2 next (λ p k. refl) v.0 v.1 st ps
  item_kept split (Todo (Group ss)) is frames m way m2 next sp v st ps = at_within split (Todo (Group ss)) is frames m m.frames way m2 next (λ p k. refl) v.0 v.1 st ps
  item_kept split (Todo (Label at k j l b)) is frames m way m2 next sp v st ps = at_within split (Todo (Label at k j l b)) is frames m m.frames way m2 next (λ p k. refl) v.0 v.1 st ps
  item_kept split (Todo (If at b c)) is frames m way m2 next sp v st ps = at_within split (Todo (If at b c)) is frames m m.frames way m2 next (λ p k. refl) v.0 v.1 st ps
  item_kept split (Todo (While at b)) is frames m way m2 next sp v st ps = at_within split (Todo (While at b)) is frames m m.frames way m2 next (λ p k. refl) v.0 v.1 st ps
  item_kept split (Todo (Do at b)) is frames m way m2 next sp v st ps = at_within split (Todo (Do at b)) is frames m m.frames way m2 next (λ p k. refl) v.0 v.1 st ps
  item_kept split (Todo (For at i d u b)) is frames m way m2 next sp v st ps = at_within split (Todo (For at i d u b)) is frames m m.frames way m2 next (λ p k. refl) v.0 v.1 st ps

  top_saved : (g : Store) (ls : List Locals) → Fenced g ls → TopSaved g ls
  top_saved g [] f = tt
  top_saved g (l ∷ ls) f = f.0

  any_kept : (split : Bool) (stack : List Frame) (m : Machine) (way : Way) (m2 : Machine) (next : List Frame) → (split ≡ true → has_split (front_primitives policy stack) ≡ true)
      → Inv stack m → step s split stack m ≡ goes way m2 → pass (plan policy s) stack way ≡ Some next → Inv next m2
  any_kept split [] m way m2 next sp v st ps = absurd (none-some next ps)
  any_kept split ([] ∷ frames) m way m2 next sp v st ps = absurd (none-some next ps)
  any_kept split ((i ∷ is) ∷ frames) m way m2 next sp v st ps = item_kept split i is frames m way m2 next sp v st ps

  pub invariant : Invariant s (problem_of policy s.bytes s.file) Inv
  invariant = record { saved = λ stack m v. top_saved m.shared m.frames v.1; kept = any_kept }
