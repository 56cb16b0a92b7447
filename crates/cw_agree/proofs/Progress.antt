-- A source whose jumps stand in loops and whose `main` is there has a plain run: each step that doesn't halt leads on.
use Rattle.std.proofs.Common.{◌≡◌, ℕ, zero, suc, ◌+◌, ◌<◌, ℤ, List, [], ◌∷◌, false, Option, Some, None, refl, sym, ap, subst, ◌∙◌}
use Rattle.std.specs.Prelude.{slice_get, unwrap_or, option_map}
use Rattle.std.specs.List.{AllByRecursion}
use Rattle.std.specs.Str.{bytes_eq}
use Rattle.std.proofs.lemmas.Option.{none-some}
use Rattle.std.proofs.lemmas.List.{length-map}
use Rattle.std.proofs.lemmas.List.Quantifiers.{position-Some}
use Rattle.cw_lemmas.proofs.Lists.{get_below}
use Rattle.cw_rights.specs.declared.capabilities.Primitive.{Primitive}
use Rattle.cw_rights.specs.Policies.{PlainPolicy}
use Rattle.cw_certs.specs.declared.moves.Move.{Move}
use Rattle.cw_certs.specs.declared.moves.Move.TheVariants.{Skip}
use Rattle.cw_syntax.specs.declared.program.Name.{Name}
use Rattle.cw_syntax.specs.Names.{text, number_in}
use Rattle.cw_syntax.specs.Trees.{Tree, Statement, Stated, Form, Block, Declares, Evaluates, Empties, Labels, Chooses, Whiles, Does, Fors, Breaks, Continues, Returns, Definition}
use Rattle.cw_syntax.specs.Plans.{Callee, Action, Computes, Opens, Closes, Invokes, acting, action_of, Plain, Break, Continue, Return, Open, Close, Call, Group, Label, If, While, Do, For, steps_of_all, seams_all, Routine, routines_from, function_names}
use Rattle.cw_syntax.specs.Frames.{Item, Entry, Todo, Test, After, LoopEnd, End, Frame, new_frame, settle, Way, On, after, popped, pass, start_stack, stack_of}
use Rattle.cw_syntax.specs.Runnable.{IsRunnable}
use Rattle.cw_model.specs.Boards.{Problem, problem_of, Phase, Visit, Asked, Refused as RefusedPhase, Free, FreeSplit, Over, Board, onward, moved, stepped, landed, passed_by, way_of, move_of}
use Rattle.cw_model.specs.Runs.{State}
use Rattle.cw_model.proofs.Moving.{way_is}
use Rattle.cw_value.specs.declared.values.Stop.{Stop}
use Rattle.cw_value.specs.declared.values.Stop.TheVariants.{Ended, Steps}
use Rattle.cw_value.specs.Stores.{Cell}
use Rattle.cw_value.specs.Expressions.{Memory, Outcome, gives, stops, Target, OwnSpot, SharedSpot, Nothing, target_at, location_of}
use Rattle.cw_value.specs.Declarations.{Done}
use Rattle.cw_value.specs.Deeds.{said_all, Passing}
use Rattle.cw_value.specs.Machines.{Source, Locals, Machine, Step, goes, halts, step, step_by, within, by_outcome, entered, settled_in, answering, deed_in, scope_in, function, memory, ends_in, call_in, back_by, result_by, taken_over, taken_by, form_in, whole_from}
use Rattle.cw_value.specs.Starts.{begun}
use Rattle.cw_value.specs.Shown.{Values}
use Rattle.cw_value.specs.Runs.{Going, ended_values, is_split, IsFree, IsWeaving, Ends, over, spent, weaves, steps, halted, going_start, most_steps, source_of, RunsFrom}
use Rattle.cw_agree.specs.Laws.{SomeRun}
use Rattle.cw_agree.proofs.Ways.{straight, GoesBy, IsWay, kind_of, deed_way}
use Rattle.cw_agree.proofs.Standing.{Whole, SettledItem, Settled, whole_items, settle_done, Goes, IsInner, inner_goes}
use Rattle.cw_agree.proofs.Paired.{Fits, IsPlain, begin_fits, begin_plain, onward_fits, onward_plain}
use Rattle.cw_agree.proofs.Calls.{CallsIn, CallsInAll, numbered_all_calls, CalledBy, steps_call_all, FrameHas, items_have, settle_has, HasIf, after_has}
use Rattle.cw_agree.proofs.Fenced.{sc, plan, ActionFits, action_fits, routine_at}

module _ (policy : PlainPolicy) (s : Source) where
  -- ---- the functions that are called are there

  abbrev pub IsFunction : ℕ → Type 0
  IsFunction n = (f : Definition) × (slice_get s.file.functions n ≡ Some f)

  abbrev pub Exists : ℕ → Callee → Type 0
  Exists at c = (r : Routine) × (slice_get (plan policy s).routines c.number ≡ Some r)

  routine_there : (j : ℕ) (fs : List Definition) (n : ℕ) (f : Definition) → slice_get fs n ≡ Some f → (r : Routine) × (slice_get (routines_from (sc policy s) j fs) n ≡ Some r)
  routine_there j [] n f e = absurd (none-some f e)
  routine_there j (g ∷ fs) zero f e = (_, refl)
  routine_there j (g ∷ fs) (suc n) f e = routine_there (j + 1 + seams_all (steps_of_all (sc policy s) g.body)) fs n f e

  named_there : (name : List ℕ) (n : ℕ) → number_in (function_names s.bytes s.file) name ≡ Some n → (r : Routine) × (slice_get (plan policy s).routines n ≡ Some r)
  named_there name n e =
      let p = position-Some (bytes_eq name) (function_names s.bytes s.file) n [] e in
      let below = subst (λ k. n < k) (length-map s.file.functions (λ (f : Definition). text s.bytes f.name)) p.0 in
      let f = get_below s.file.functions n below in
      routine_there 0 s.file.functions n f.0 f.1

  acting_exists : (e : Tree) (from : ℕ) (a : Action) → ActionFits policy s e a → CallsIn Exists (acting a from)
  acting_exists e from Computes h = tt
  acting_exists e from (Opens d) h = tt
  acting_exists e from (Closes d) h = tt
  acting_exists e from (Invokes c) h = named_there h.name c.number h.numbered

  form_exists : (form : Form) (from to : ℕ) → CalledBy Exists (sc policy s) (Stated form from to)
  form_exists (Evaluates e) from to = acting_exists e from (action_of (sc policy s) e) (action_fits policy s e)
  form_exists (Block ss) from to = tt
  form_exists (Declares d) from to = tt
  form_exists Empties from to = tt
  form_exists (Labels l m b) from to = tt
  form_exists (Chooses e a b) from to = tt
  form_exists (Whiles e a) from to = tt
  form_exists (Does a e) from to = tt
  form_exists (Fors i t u a) from to = tt
  form_exists Breaks from to = tt
  form_exists Continues from to = tt
  form_exists (Returns e) from to = tt

  all_exist : (sts : List Statement) → AllByRecursion (CalledBy Exists (sc policy s)) sts
  all_exist [] = tt
  all_exist (Stated form from to ∷ sts) = (form_exists form from to, all_exist sts)

  body_exists : (n : ℕ) (r : Routine) → slice_get (plan policy s).routines n ≡ Some r → CallsInAll Exists r.body
  body_exists n r e =
      let k = routine_at policy s 0 s.file.functions n r e in
      subst (CallsInAll Exists) (sym k.body)
      (numbered_all_calls Exists (steps_of_all (sc policy s) k.definition.body) k.seam (steps_call_all Exists (sc policy s) k.definition.body (all_exist (said_all k.definition.body))))

  module _ (runs : IsRunnable (plan policy s)) where
    -- each frame is whole, what it calls is there, and so is its function
    abbrev pub Ready : List Frame → List Locals → Type 0
    Ready [] ls = Unit {0}
    Ready (frame ∷ frames) [] = ⊥
    Ready (frame ∷ frames) (l ∷ ls) = Whole frame × FrameHas Exists frame × IsFunction l.function × Ready frames ls

    -- a frame below the top goes on behind its call
    abbrev pub IsOpen : Frame → Type 0
    IsOpen [] = ⊥
    IsOpen (call ∷ rest) = Whole rest

    abbrev pub AreOpen : List Frame → Type 0
    AreOpen [] = Unit {0}
    AreOpen (frame ∷ frames) = IsOpen frame × AreOpen frames

    abbrev pub TopSettled : List Frame → Type 0
    TopSettled [] = Unit {0}
    TopSettled (frame ∷ frames) = Settled frame × AreOpen frames

    is_function : (n : ℕ) (r : Routine) → slice_get (plan policy s).routines n ≡ Some r → IsFunction n
    is_function n r e = let k = routine_at policy s 0 s.file.functions n r e in (k.definition, k.defined)

    new_whole : (n : ℕ) (r : Routine) → slice_get (plan policy s).routines n ≡ Some r → Whole (new_frame n r)
    new_whole n r e = whole_items r.body (End n ∷ []) (runs.lands n r e) tt

    new_has : (n : ℕ) (r : Routine) → slice_get (plan policy s).routines n ≡ Some r → FrameHas Exists (new_frame n r)
    new_has n r e = (tt, items_have Exists r.body (End n ∷ []) (body_exists n r e) (tt, tt))

    -- a step halts, or leads on to a state that is ready
    pub data Progress (stack : List Frame) (st : Step) : Type 0 where
      halting : (why : Stop) (m : Machine) → st ≡ halts why m → Progress stack st
      going : (way : Way) (m : Machine) (next : List Frame) → st ≡ goes way m → pass (plan policy s) stack way ≡ Some next → Ready next m.frames → TopSettled next → Progress stack st

    -- ---- an item that is neither a call nor an end

    pass_inner : (i : Item) (is : Frame) (frames : List Frame) (way : Way) → IsInner i
        → pass (plan policy s) ((i ∷ is) ∷ frames) way ≡ option_map (λ next. settle next ∷ frames) (after i way is)
    pass_inner (Entry g j) is frames way n = refl
    pass_inner (Test at d u b) is frames way n = refl
    pass_inner (After at) is frames way n = refl
    pass_inner LoopEnd is frames way n = refl
    pass_inner (Todo (Plain at)) is frames way n = refl
    pass_inner (Todo (Break at)) is frames way n = refl
    pass_inner (Todo (Continue at)) is frames way n = refl
    pass_inner (Todo (Return at)) is frames way n = refl
    pass_inner (Todo (Open at j d)) is frames way n = refl
    pass_inner (Todo (Close at j d)) is frames way n = refl
    pass_inner (Todo (Group ss)) is frames way n = refl
    pass_inner (Todo (Label at l j x b)) is frames way n = refl
    pass_inner (Todo (If at b d)) is frames way n = refl
    pass_inner (Todo (While at b)) is frames way n = refl
    pass_inner (Todo (Do at b)) is frames way n = refl
    pass_inner (Todo (For at x d u b)) is frames way n = refl
    pass_inner (End g) is frames way n = absurd n
    pass_inner (Todo (Call at j callee)) is frames way n = absurd n

    enters_inner : (i : Item) (p : Passing) (m : Machine) → IsInner i → entered s false i p m ≡ m
    enters_inner (Entry g j) p m n = refl
    enters_inner (Test at d u b) p m n = refl
    enters_inner (After at) p m n = refl
    enters_inner LoopEnd p m n = refl
    enters_inner (Todo (Plain at)) p m n = refl
    enters_inner (Todo (Break at)) p m n = refl
    enters_inner (Todo (Continue at)) p m n = refl
    enters_inner (Todo (Return at)) p m n = refl
    enters_inner (Todo (Open at j d)) p m n = refl
    enters_inner (Todo (Close at j d)) p m n = refl
    enters_inner (Todo (Group ss)) p m n = refl
    enters_inner (Todo (Label at l j x b)) p m n = refl
    enters_inner (Todo (If at b d)) p m n = refl
    enters_inner (Todo (While at b)) p m n = refl
    enters_inner (Todo (Do at b)) p m n = refl
    enters_inner (Todo (For at x d u b)) p m n = refl
    enters_inner (End g) p m n = absurd n
    enters_inner (Todo (Call at j callee)) p m n = absurd n

    by_after : (i : Item) (is : Frame) (frames : List Frame) (top : Locals) (rest : List Locals) (p : Passing) (k : Memory) → IsInner i → SettledItem i → IsWay (kind_of i) p.way
        → Ready ((i ∷ is) ∷ frames) (top ∷ rest) → AreOpen frames → (o : Option Frame) → after i p.way is ≡ o → Goes o
        → HasIf Exists o → Progress ((i ∷ is) ∷ frames) (by_outcome s false i top rest (gives p k))
    by_after i is frames top rest p k n t w r c None e g h = absurd g
    by_after i is frames top rest p k n t w r c (Some next) e g h =
        let new = settled_in k (answering p.answer top) rest in
        let done = settle_done next g in
        let ready : Ready (settle next ∷ frames) new.frames = (done.0, settle_has Exists next h, r.2, r.3) in
        going p.way (entered s false i p new) (settle next ∷ frames) refl (pass_inner i is frames p.way n ∙ ap (option_map (λ x. settle x ∷ frames)) e)
        (subst (λ (m : Machine). Ready (settle next ∷ frames) m.frames) (sym (enters_inner i p new n)) ready) (done.1, c)

    inner_progress : (i : Item) (is : Frame) (frames : List Frame) (top : Locals) (rest : List Locals) (o : Outcome Passing) → IsInner i → SettledItem i → GoesBy (kind_of i) o
        → Ready ((i ∷ is) ∷ frames) (top ∷ rest) → AreOpen frames → Progress ((i ∷ is) ∷ frames) (by_outcome s false i top rest o)
    inner_progress i is frames top rest (stops why k) n t w r c = halting why (settled_in k top rest) refl
    inner_progress i is frames top rest (gives p k) n t w r c =
        by_after i is frames top rest p k n t w r c (after i p.way is) refl (inner_goes i p.way is n t r.0 w) (after_has Exists i p.way is r.1.0 r.1.1)

    -- ---- a call

    call_progress : (at j : ℕ) (callee : Callee) (is : Frame) (frames : List Frame) (top : Locals) (rest : List Locals) (o : Outcome Passing) → GoesBy straight o
        → Ready ((Todo (Call at j callee) ∷ is) ∷ frames) (top ∷ rest) → AreOpen frames → Progress ((Todo (Call at j callee) ∷ is) ∷ frames) (by_outcome s false (Todo (Call at j callee)) top rest o)
    call_progress at j callee is frames top rest (stops why k) w r c = halting why (settled_in k top rest) refl
    call_progress at j callee is frames top rest (gives p k) w r c =
        let stack = (Todo (Call at j callee) ∷ is) ∷ frames in
        let there = r.1.0 in
        let new = new_frame callee.number there.0 in
        let m = entered s false (Todo (Call at j callee)) p (settled_in k (answering p.answer top) rest) in
        let passes : pass (plan policy s) stack On ≡ Some (new ∷ stack) = ap (λ o. option_map (λ frame. frame ∷ stack) (option_map (new_frame callee.number) o)) there.1 in
        let ready : Ready (new ∷ stack) m.frames = (new_whole callee.number there.0 there.1, new_has callee.number there.0 there.1, is_function callee.number there.0 there.1, r) in
        going p.way m (new ∷ stack) refl (subst (λ way. pass (plan policy s) stack way ≡ Some (new ∷ stack)) (sym w) passes) ready (tt, (r.0.1, c))

    -- ---- the end of a frame

    abbrev Back : List Frame → Step → Type 0
    Back stack (goes way m) = (way ≡ On) × Ready stack m.frames
    Back stack (halts why m) = Unit {0}

    taken_back : (at : ℕ) (t : Target) (z : ℤ) (frame : Frame) (frames : List Frame) (caller : Locals) (rest : List Locals) (m : Machine) → Ready (frame ∷ frames) (caller ∷ rest)
        → Back (frame ∷ frames) (taken_by at t z caller rest m)
    taken_back at (OwnSpot p) z frame frames caller rest m r = (refl, r)
    taken_back at (SharedSpot p) z frame frames caller rest m r = (refl, r)
    taken_back at Nothing z frame frames caller rest m r = tt

    over_back : (at : ℕ) (x : Name) (c : Cell) (frame : Frame) (frames : List Frame) (caller : Locals) (rest : List Locals) (m : Machine) → Ready (frame ∷ frames) (caller ∷ rest)
        → Back (frame ∷ frames) (taken_over s at x c caller rest m)
    over_back at x None frame frames caller rest m r = tt
    over_back at x (Some z) frame frames caller rest m r =
        taken_back (whole_from at (form_in (function s caller.function) at)) (target_at (location_of (scope_in s (function s caller.function)) (text s.bytes x))) z frame frames caller rest m r

    result_back : (at : ℕ) (x : Option Name) (c : Cell) (frame : Frame) (frames : List Frame) (caller : Locals) (rest : List Locals) (m : Machine) → Ready (frame ∷ frames) (caller ∷ rest)
        → Ready (frame ∷ frames) m.frames → Back (frame ∷ frames) (result_by s at x c caller rest m)
    result_back at None c frame frames caller rest m r q = (refl, q)
    result_back at (Some x) c frame frames caller rest m r q = over_back at x c frame frames caller rest m r

    by_back : (call : Option (ℕ × Option Name)) (top : Locals) (frame : Frame) (frames : List Frame) (caller : Locals) (rest : List Locals) (m : Machine) → Ready (frame ∷ frames) (caller ∷ rest)
        → Ready (frame ∷ frames) m.frames → Back (frame ∷ frames) (back_by s call top caller rest m)
    by_back None top frame frames caller rest m r q = (refl, q)
    by_back (Some call) top frame frames caller rest m r q = result_back call.0 call.1 top.answer frame frames caller rest m r q

    back_progress : (g : ℕ) (is : Frame) (frames next : List Frame) (st : Step) → popped frames ≡ Some next → TopSettled next → Back next st → Progress ((End g ∷ is) ∷ frames) st
    back_progress g is frames next (halts why m) e t b = halting why m refl
    back_progress g is frames next (goes way m) e t b = going way m next refl (subst (λ x. pass (plan policy s) ((End g ∷ is) ∷ frames) x ≡ Some next) (sym b.0) e) b.1 t

    end_progress : (g : ℕ) (is : Frame) (frames : List Frame) (m : Machine) (top : Locals) (rest : List Locals) → Ready frames rest → AreOpen frames
        → Progress ((End g ∷ is) ∷ frames) (ends_in s frames m (top ∷ rest))
    end_progress g is [] m top rest r c = going On m [] refl refl tt tt
    end_progress g is (frame ∷ frames) m top [] r c = absurd r
    end_progress g is ([] ∷ frames) m top (caller ∷ rest) r c = absurd r.0
    end_progress g is ((call ∷ is2) ∷ frames) m top (caller ∷ rest) r c =
        let m1 : Machine = record m { shared = unwrap_or top.saved m.shared; frames = caller ∷ rest } in
        let done = settle_done is2 c.0 in
        let ready : Ready (settle is2 ∷ frames) (caller ∷ rest) = (done.0, settle_has Exists is2 r.1.1, r.2, r.3) in
        back_progress g is ((call ∷ is2) ∷ frames) (settle is2 ∷ frames) (back_by s (call_in (call ∷ is2)) top caller rest m1) refl (done.1, c.1)
        (by_back (call_in (call ∷ is2)) top (settle is2) frames caller rest m1 ready ready)

    -- ---- any step

    -- a deed of the top frame, whose function is there
    deed_goes : (i : Item) (m : Memory) (o : Option Definition) → (f : Definition) × (o ≡ Some f) → GoesBy (kind_of i) (deed_in o i (scope_in s o) m)
    deed_goes i m o f = subst (λ x. GoesBy (kind_of i) (deed_in x i (scope_in s x) m)) (sym f.1) (deed_way (scope_in s (Some f.0)) f.0 i m)

    within_progress : (i : Item) (is : Frame) (frames : List Frame) (m : Machine) (ls : List Locals) → IsInner i → SettledItem i → Ready ((i ∷ is) ∷ frames) ls → AreOpen frames
        → Progress ((i ∷ is) ∷ frames) (within s false i m ls)
    within_progress i is frames m [] n t r c = absurd r
    within_progress i is frames m (top ∷ rest) n t r c =
        inner_progress i is frames top rest (deed_in (function s top.function) i (scope_in s (function s top.function)) (memory m top)) n t
        (deed_goes i (memory m top) (function s top.function) r.2) r c

    at_call : (at j : ℕ) (callee : Callee) (is : Frame) (frames : List Frame) (m : Machine) (ls : List Locals) → Ready ((Todo (Call at j callee) ∷ is) ∷ frames) ls → AreOpen frames
        → Progress ((Todo (Call at j callee) ∷ is) ∷ frames) (within s false (Todo (Call at j callee)) m ls)
    at_call at j callee is frames m [] r c = absurd r
    at_call at j callee is frames m (top ∷ rest) r c =
        call_progress at j callee is frames top rest (deed_in (function s top.function) (Todo (Call at j callee)) (scope_in s (function s top.function)) (memory m top))
        (deed_goes (Todo (Call at j callee)) (memory m top) (function s top.function) r.2) r c

    at_end : (g : ℕ) (is : Frame) (frames : List Frame) (m : Machine) (ls : List Locals) → Ready ((End g ∷ is) ∷ frames) ls → AreOpen frames → Progress ((End g ∷ is) ∷ frames) (ends_in s frames m ls)
    at_end g is frames m [] r c = absurd r
    at_end g is frames m (top ∷ rest) r c = end_progress g is frames m top rest r.3 c

    pub progress : (i : Item) (is : Frame) (frames : List Frame) (m : Machine) → Ready ((i ∷ is) ∷ frames) m.frames → TopSettled ((i ∷ is) ∷ frames)
        → Progress ((i ∷ is) ∷ frames) (step_by s false i frames m)
    progress (End g) is frames m r c = at_end g is frames m m.frames r c.1
    progress (Todo (Call at j callee)) is frames m r c = at_call at j callee is frames m m.frames r c.1
    progress (Entry g j) is frames m r c = within_progress (Entry g j) is frames m m.frames tt c.0 r c.1
    progress (Test at d u b) is frames m r c = within_progress (Test at d u b) is frames m m.frames tt c.0 r c.1
    progress (After at) is frames m r c = within_progress (After at) is frames m m.frames tt c.0 r c.1
    progress (Todo (Plain at)) is frames m r c = within_progress (Todo (Plain at)) is frames m m.frames tt c.0 r c.1
    progress (Todo (Break at)) is frames m r c = within_progress (Todo (Break at)) is frames m m.frames tt c.0 r c.1
    progress (Todo (Continue at)) is frames m r c = within_progress (Todo (Continue at)) is frames m m.frames tt c.0 r c.1
    progress (Todo (Return at)) is frames m r c = within_progress (Todo (Return at)) is frames m m.frames tt c.0 r c.1
    progress (Todo (Open at j d)) is frames m r c = within_progress (Todo (Open at j d)) is frames m m.frames tt c.0 r c.1
    progress (Todo (Close at j d)) is frames m r c = within_progress (Todo (Close at j d)) is frames m m.frames tt c.0 r c.1
    progress (Todo (Label at l j x b)) is frames m r c = within_progress (Todo (Label at l j x b)) is frames m m.frames tt c.0 r c.1
    progress (Todo (If at b d)) is frames m r c = within_progress (Todo (If at b d)) is frames m m.frames tt c.0 r c.1
    progress LoopEnd is frames m r c = absurd c.0
    progress (Todo (Group ss)) is frames m r c = absurd c.0
    progress (Todo (While at b)) is frames m r c = absurd c.0
    progress (Todo (Do at b)) is frames m r c = absurd c.0
    progress (Todo (For at x d u b)) is frames m r c = absurd c.0

    -- ---- a run

    abbrev pub p : Problem
    p = problem_of policy s.bytes s.file

    -- a state of a plain run from which it goes on
    pub record Ok (g : Going) : Type 0 where
      pub plain : IsPlain g.woven.board.phase
      pub fits : Fits g.woven.board.stack g.woven.board.phase
      pub ready : Ready g.woven.board.stack g.machine.frames
      pub settled : TopSettled g.woven.board.stack

    abbrev RunsFor : ℕ → Going → Type 0
    RunsFor n g = (v : Values) × Ends s p None n g v

    pub landed_next : (b : Board) (way : Way) (next : List Frame) → pass (plan policy s) b.stack way ≡ Some next → stepped p None b (way_of (move_of way)) ≡ Some (landed p None b way next)
    landed_next b way next e = ap (stepped p None b) (way_is way) ∙ ap (option_map (landed p None b way)) e

    step_run : (n : ℕ) → ((g : Going) → Ok g → RunsFor n g) → (g : Going) → g.woven.board.phase ≡ Free → Progress g.woven.board.stack (step s false g.woven.board.stack g.machine) → RunsFor (suc n) g
    step_run n run g e (halting why m st) =
        (_, halted n g why m (subst IsFree (sym e) tt) (ap (λ (x : Phase). step s (is_split x) g.woven.board.stack g.machine) e ∙ st))
    step_run n run g e (going way m next st ps r t) =
        let b = g.woven.board in
        let state : State = record { board = landed p None b way next; mems = g.woven.mems } in
        let ok : Ok (record g { woven = state; machine = m }) = record { plain = begin_plain policy next; fits = begin_fits policy next; ready = r; settled = t } in
        let rest = run (record g { woven = state; machine = m }) ok in (
          rest.0,
          steps n g way m state rest.0 (subst IsFree (sym e) tt) (ap (λ (x : Phase). step s (is_split x) b.stack g.machine) e ∙ st)
              (ap (λ (x : Phase). moved p b x (move_of way)) e ∙ landed_next b way next ps, refl) rest.1,
        )

    at_stack : (g : Going) (stack : List Frame) → g.woven.board.phase ≡ Free → Fits stack g.woven.board.phase → Ready stack g.machine.frames
        → TopSettled stack → Progress stack (step s false stack g.machine)
    at_stack g [] e f r t = absurd (subst (Fits []) e f)
    at_stack g ([] ∷ frames) e f r t = absurd t.0
    at_stack g ((i ∷ is) ∷ frames) e f r t = progress i is frames g.machine r t

    free_run : (n : ℕ) → ((g : Going) → Ok g → RunsFor n g) → (g : Going) → g.woven.board.phase ≡ Free → Ok g → RunsFor (suc n) g
    free_run n run g e ok = step_run n run g e (at_stack g g.woven.board.stack e ok.fits ok.ready ok.settled)

    -- the visits are skipped
    abbrev pub skipped_to : Going → ℕ → List Primitive → Going
    skipped_to g stage later = record g { woven = record { board = passed_by g.woven.board stage later; mems = g.woven.mems } }

    pub visit_fits : (stack : List Frame) (stage next : ℕ) (a : Primitive) (later rest : List Primitive) → Fits stack (Visit stage a later) → Fits stack (onward next rest)
    visit_fits [] stage next a later rest f = absurd f
    visit_fits (frame ∷ frames) stage next a later rest f = onward_fits frame frames next rest

    pub skipped_ok : (g : Going) (stage : ℕ) (a : Primitive) (later : List Primitive) → g.woven.board.phase ≡ Visit stage a later → Ok g → Ok (skipped_to g stage later)
    skipped_ok g stage a later e ok = record {
      plain = onward_plain (suc stage) later;
      fits = visit_fits g.woven.board.stack stage (suc stage) a later later (subst (Fits g.woven.board.stack) e ok.fits);
      ready = ok.ready;
      settled = ok.settled;
    }

    skip_run : (n : ℕ) (g : Going) (stage : ℕ) (a : Primitive) (later : List Primitive) → g.woven.board.phase ≡ Visit stage a later → RunsFor (suc n) (skipped_to g stage later) → RunsFor (suc n) g
    skip_run n g stage a later e rest =
        let next : State = record { board = passed_by g.woven.board stage later; mems = g.woven.mems } in
        (rest.0, weaves n g Skip next rest.0 (subst IsWeaving (sym e) tt) refl (λ q. absurd (cc)) (ap (λ (x : Phase). moved p g.woven.board x Skip) e, refl) rest.1)

    visit_run : (n : ℕ) → ((g : Going) → Ok g → RunsFor n g) → (later : List Primitive) (g : Going) (stage : ℕ) (a : Primitive) → g.woven.board.phase ≡ Visit stage a later → Ok g → RunsFor (suc n) g
    visit_run n run [] g stage a e ok = skip_run n g stage a [] e (free_run n run (skipped_to g stage []) refl (skipped_ok g stage a [] e ok))
    visit_run n run (b ∷ later) g stage a e ok =
        skip_run n g stage a (b ∷ later) e (visit_run n run later (skipped_to g stage (b ∷ later)) (suc stage) b refl (skipped_ok g stage a (b ∷ later) e ok))

    zero_run : (g : Going) (phase : Phase) → g.woven.board.phase ≡ phase → RunsFor 0 g
    zero_run g Over e = (ended_values g Ended, over 0 g e)
    zero_run g Free e = (ended_values g Steps, spent g (λ q. absurd (let clash : Free ≡ Over = sym e ∙ q in cc)))
    zero_run g FreeSplit e = (ended_values g Steps, spent g (λ q. absurd (let clash : FreeSplit ≡ Over = sym e ∙ q in cc)))
    zero_run g (Visit i a l) e = (ended_values g Steps, spent g (λ q. absurd (let clash : Visit i a l ≡ Over = sym e ∙ q in cc)))
    zero_run g (Asked i a l) e = (ended_values g Steps, spent g (λ q. absurd (let clash : Asked i a l ≡ Over = sym e ∙ q in cc)))
    zero_run g (RefusedPhase i a l) e = (ended_values g Steps, spent g (λ q. absurd (let clash : RefusedPhase i a l ≡ Over = sym e ∙ q in cc)))

    more_run : (n : ℕ) → ((g : Going) → Ok g → RunsFor n g) → (g : Going) → Ok g → (phase : Phase) → g.woven.board.phase ≡ phase → IsPlain phase → RunsFor (suc n) g
    more_run n run g ok Over e h = (ended_values g Ended, over (suc n) g e)
    more_run n run g ok Free e h = free_run n run g e ok
    more_run n run g ok (Visit i a l) e h = visit_run n run l g i a e ok
    more_run n run g ok FreeSplit e h = absurd h
    more_run n run g ok (Asked i a l) e h = absurd h
    more_run n run g ok (RefusedPhase i a l) e h = absurd h

    run_for : (n : ℕ) (g : Going) → Ok g → RunsFor n g
    run_for zero g ok = zero_run g g.woven.board.phase refl
    run_for (suc n) g ok = more_run n (run_for n) g ok g.woven.board.phase refl ok.plain

    -- ---- from the start

    start_ready : (o : Option Routine) (l : Locals) → slice_get (plan policy s).routines (plan policy s).main ≡ o → l.function ≡ (plan policy s).main
        → Ready (stack_of (option_map (new_frame (plan policy s).main) o)) (l ∷ [])
    start_ready None l e f = tt
    start_ready (Some r) l e f =
        let n = (plan policy s).main in
        (new_whole n r e, new_has n r e, subst IsFunction (sym f) (is_function n r e), tt)

    start_settled : (o : Option Routine) → TopSettled (stack_of (option_map (new_frame (plan policy s).main) o))
    start_settled None = tt
    start_settled (Some r) = (tt, tt)

    pub start_ok : (tries : List Move) (m : Memory) → Ok (going_start s p None tries m)
    start_ok tries m = record {
      plain = begin_plain policy (start_stack (plan policy s));
      fits = begin_fits policy (start_stack (plan policy s));
      ready = start_ready (slice_get (plan policy s).routines (plan policy s).main) _ refl refl;
      settled = start_settled (slice_get (plan policy s).routines (plan policy s).main);
    }

    from_run : (tries : List Move) (o : Outcome Done) → (v : Values) × RunsFrom s p None tries o v
    from_run tries (stops why m) = (_, refl)
    from_run tries (gives d m) = run_for most_steps (going_start s p None tries m) (start_ok tries m)

pub some_run : SomeRun
some_run policy bytes file handed_in runs =
    let s = source_of bytes file handed_in in
    from_run policy s runs handed_in.tries (begun s handed_in.calls)
