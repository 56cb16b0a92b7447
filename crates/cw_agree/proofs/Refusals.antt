-- The weaver ends a run only right after a refusal that took an entry of the answers.
use Rattle.std.proofs.Common.{◌≡◌, ◌≢◌, ℕ, suc, ◌+◌, ℤ, List, [], ◌∷◌, ◌++◌, Bool, true, false, cond, not, ◌&&◌, Option, Some, None, refl, sym, ap, subst, ◌∙◌}
use Rattle.std.specs.Prelude.{unwrap_or, nat_le, nat_lt, replicate, pos, negsuc}
use Rattle.std.specs.List.{list_any}
use Rattle.std.proofs.lemmas.Option.{same_Some, none-some, cond_some}
use Rattle.std.proofs.lemmas.Bool.{both_ways, or_right, and_parts}
use Rattle.cw_core.specs.declared.ids.SeamId.{SeamId}
use Rattle.cw_rights.specs.declared.capabilities.Primitive.{Primitive}
use Rattle.cw_rights.specs.declared.capabilities.Primitive.TheVariants.{Limit, Enter, Split}
use Rattle.cw_rights.specs.Policies.{is_refusable}
use Rattle.cw_certs.specs.declared.moves.Move.{Move}
use Rattle.cw_certs.specs.declared.moves.Move.TheVariants.{Skip, Try, Grant, Refuse, On as OnMove, Left as LeftMove, Right as RightMove, Opened as OpenedMove, Failed as FailedMove, Stop as StopMove}
use Rattle.cw_certs.specs.Tables.{Table}
use Rattle.cw_syntax.specs.declared.program.Name.{Name}
use Rattle.cw_syntax.specs.Names.{text}
use Rattle.cw_syntax.specs.Trees.{Tree, Trees, none, more, Declared, Definition, count}
use Rattle.cw_syntax.specs.Frames.{Item, Entry, Todo, Test, After, LoopEnd, End, Frame, start_stack}
use Rattle.cw_model.specs.Boards.{Problem, problem_of, Phase, Visit, Asked, Refused as RefusedPhase, Free, FreeSplit, Over, Board, may_grant, may_refuse, can_stop, begin, onward, moved, granted, passed_by, refused, answered, is_refused, move_of}
use Rattle.cw_model.specs.Runs.{State}
use Rattle.cw_value.specs.declared.values.Stop.TheVariants.{Refused, Form}
use Rattle.cw_value.specs.Stores.{Cell}
use Rattle.cw_value.specs.Expressions.{Scope, Memory, Outcome, gives, stops, ◌and◌, Location, Own, OwnArray, Shared, SharedArray, Nowhere, Target, OwnSpot, SharedSpot, Nothing, stored, target_at, location_of, from_of, value}
use Rattle.cw_value.specs.Declarations.{Done, done, most_elements, size_if, size_in, sized, listed_one, filled, with_zeros, with_list, rest_stops, made_array, made_plain, element_target}
use Rattle.cw_value.specs.Deeds.{Passing, deed_of, does}
use Rattle.cw_value.specs.Machines.{Source, Locals, Machine, Step, goes, halts, step, step_by, within, by_outcome, deed_in, scope_in, function, memory, globals, ends_in, call_in, back_by, back_to, result_by, taken_over, taken_by, form_in, whole_from}
use Rattle.cw_value.specs.Starts.{no_store, start_store, start_cell, is_named, has_size, made_once, array_turn, plain_turn, turn_at, turns, begun}
use Rattle.cw_value.specs.Shown.{Values}
use Rattle.cw_value.specs.Runs.{Going, taken, answer, answer_by, counted, ended_values, is_split, IsWeaving, Leads, Ends, over, spent, weaves, quits, asks, steps, halted, going_start, most_steps, source_of, RunsFrom}
use Rattle.cw_agree.specs.Agreements.{IsPlaced, Comes, here, IsRefused}
use Rattle.cw_agree.specs.Agreements.{weaves as comes_weaving, asks as comes_asking, steps as comes_stepping}
use Rattle.cw_agree.specs.Laws.{RefusalsAreTaken}
use Rattle.cw_agree.proofs.Keeps.{Ends as EndsBy, Any, value_quiet, does_keeps}
use Rattle.cw_agree.proofs.Grows.{Grows, AnyTarget, growing, any_quiet, any_deed}
use Rattle.cw_agree.proofs.Paired.{leads_moved, lands, stop_refused}
use Rattle.cw_model.proofs.Moving.{onward_on, begin_on}

-- ---- a step of the program halts at an expression

abbrev pub Placed : Step → Type 0
Placed (goes way m) = Unit {0}
Placed (halts why m) = IsPlaced why

abbrev pub StopsPlaced : {A : Type 0} → Outcome A → Type 0
StopsPlaced (gives a m) = Unit {0}
StopsPlaced (stops why m) = IsPlaced why

ends_placed : {A : Type 0} (m : Memory) (o : Outcome A) → EndsBy Grows AnyTarget growing m (Any Grows AnyTarget growing) o → StopsPlaced o
ends_placed m (gives a k) h = tt
ends_placed m (stops why k) h = h.0

module _ (s : Source) where
  deed_placed : (f : Option Definition) (i : Item) (t : Scope) (m : Memory) → StopsPlaced (deed_in f i t m)
  deed_placed None i t m = tt
  deed_placed (Some f) i t m = ends_placed m (does t (deed_of f i) m) (does_keeps Grows AnyTarget growing t (deed_of f i) m (any_deed t (deed_of f i)))

  outcome_placed : (split : Bool) (i : Item) (top : Locals) (rest : List Locals) (o : Outcome Passing) → StopsPlaced o → Placed (by_outcome s split i top rest o)
  outcome_placed split i top rest (gives p k) h = tt
  outcome_placed split i top rest (stops why k) h = h

  within_placed : (split : Bool) (i : Item) (m : Machine) (ls : List Locals) → Placed (within s split i m ls)
  within_placed split i m [] = tt
  within_placed split i m (top ∷ rest) =
      outcome_placed split i top rest (deed_in (function s top.function) i (scope_in s (function s top.function)) (memory m top))
      (deed_placed (function s top.function) i (scope_in s (function s top.function)) (memory m top))

  taken_placed : (at : ℕ) (t : Target) (z : ℤ) (caller : Locals) (rest : List Locals) (m : Machine) → Placed (taken_by at t z caller rest m)
  taken_placed at (OwnSpot p) z caller rest m = tt
  taken_placed at (SharedSpot p) z caller rest m = tt
  taken_placed at Nothing z caller rest m = tt

  over_placed : (at : ℕ) (x : Name) (c : Cell) (caller : Locals) (rest : List Locals) (m : Machine) → Placed (taken_over s at x c caller rest m)
  over_placed at x None caller rest m = tt
  over_placed at x (Some z) caller rest m =
      taken_placed (whole_from at (form_in (function s caller.function) at)) (target_at (location_of (scope_in s (function s caller.function)) (text s.bytes x))) z caller rest m

  result_placed : (at : ℕ) (x : Option Name) (c : Cell) (caller : Locals) (rest : List Locals) (m : Machine) → Placed (result_by s at x c caller rest m)
  result_placed at None c caller rest m = tt
  result_placed at (Some x) c caller rest m = over_placed at x c caller rest m

  by_placed : (call : Option (ℕ × Option Name)) (top caller : Locals) (rest : List Locals) (m : Machine) → Placed (back_by s call top caller rest m)
  by_placed None top caller rest m = tt
  by_placed (Some call) top caller rest m = result_placed call.0 call.1 top.answer caller rest m

  back_placed : (call : Option (ℕ × Option Name)) (top : Locals) (rest : List Locals) (m : Machine) → Placed (back_to s call top rest m)
  back_placed call top [] m = tt
  back_placed call top (caller ∷ rest) m = by_placed call top caller rest (record m { shared = unwrap_or top.saved m.shared; frames = caller ∷ rest })

  ends_in_placed : (frames : List Frame) (m : Machine) (ls : List Locals) → Placed (ends_in s frames m ls)
  ends_in_placed [] m ls = tt
  ends_in_placed (frame ∷ frames) m [] = tt
  ends_in_placed (frame ∷ frames) m (top ∷ rest) = back_placed (call_in frame) top rest m

  item_placed : (split : Bool) (i : Item) (frames : List Frame) (m : Machine) → Placed (step_by s split i frames m)
  item_placed split (End f) frames m = ends_in_placed frames m m.frames
  item_placed split (Entry f j) frames m = within_placed split (Entry f j) m m.frames
  item_placed split (Todo b) frames m = within_placed split (Todo b) m m.frames
  item_placed split (Test at d u b) frames m = within_placed split (Test at d u b) m m.frames
  item_placed split (After at) frames m = within_placed split (After at) m m.frames
  item_placed split LoopEnd frames m = within_placed split LoopEnd m m.frames

  pub step_placed : (split : Bool) (stack : List Frame) (m : Machine) → Placed (step s split stack m)
  step_placed split [] m = tt
  step_placed split ([] ∷ frames) m = tt
  step_placed split ((i ∷ is) ∷ frames) m = item_placed split i frames m

-- ---- a refusal that can be answered with a stop

answer_taken : (tries : List Move) → (taken tries).0 ≡ Refuse → (rest : List Move) × (tries ≡ Refuse ∷ rest) × ((taken tries).1 ≡ rest)
answer_taken [] e = absurd (cc)
answer_taken (a ∷ rest) e = (rest, ap (λ x. x ∷ rest) e, refl)

both_taken : (grant refuse : Bool) (tries : List Move) → grant ≡ true → refuse ≡ true → answer_by grant refuse tries ≡ taken tries
both_taken true true tries g r = refl
both_taken true false tries g r = absurd (cc)
both_taken false refuse tries g r = absurd (cc)

module _ (source : Source) (p : Problem) where
  refused_by : (c : Bool) (b next : Board) (i : ℕ) (a : Primitive) (l : List Primitive) → record b { phase = cond c (RefusedPhase i a l) (onward (suc i) l) } ≡ next
      → is_refused next.phase ≡ true → c ≡ true
  refused_by true b next i a l e h = refl
  refused_by false b next i a l e h = absurd (both_ways (is_refused (onward (suc i) l)) (onward_on (suc i) l) (ap (λ (x : Board). is_refused x.phase) e ∙ h))

  grant_unrefused : (b next : Board) (i : ℕ) (a : Primitive) (l : List Primitive) → granted b i a l ≡ next → is_refused next.phase ≡ true → ⊥
  grant_unrefused b next i Split l e h = both_ways (is_refused next.phase) (ap (λ (x : Board). is_refused x.phase) (sym e)) h
  grant_unrefused b next i Enter l e h = both_ways (is_refused next.phase) (ap (λ (x : Board). is_refused x.phase) (sym e) ∙ onward_on (suc i) l) h
  grant_unrefused b next i (Limit m) l e h = both_ways (is_refused next.phase) (ap (λ (x : Board). is_refused x.phase) (sym e) ∙ onward_on (suc i) l) h

  -- an answer after which the weaver can stop
  answer_refused : (b next : Board) (i : ℕ) (a : Primitive) (l : List Primitive) (m : Move) → answered p b i a l m ≡ Some next → is_refused next.phase ≡ true
      → (m ≡ Refuse) × (can_stop p.policy b.caps a ≡ true)
  answer_refused b next i a l Refuse e h = (refl, refused_by (can_stop p.policy b.caps a) b next i a l ((cond_some (may_refuse p.policy b.caps a) (refused p b i a l) next e).1) h)
  answer_refused b next i a l Grant e h = absurd (grant_unrefused b next i a l ((cond_some (may_grant b.caps a) (granted b i a l) next e).1) h)
  answer_refused b next i a l Skip e h = absurd (none-some next e)
  answer_refused b next i a l Try e h = absurd (none-some next e)
  answer_refused b next i a l OnMove e h = absurd (none-some next e)
  answer_refused b next i a l LeftMove e h = absurd (none-some next e)
  answer_refused b next i a l RightMove e h = absurd (none-some next e)
  answer_refused b next i a l OpenedMove e h = absurd (none-some next e)
  answer_refused b next i a l FailedMove e h = absurd (none-some next e)
  answer_refused b next i a l StopMove e h = absurd (none-some next e)

  weave_unrefused : (b next : Board) (phase : Phase) (m : Move) → IsWeaving phase → m ≢ StopMove → moved p b phase m ≡ Some next → is_refused next.phase ≡ false
  weave_unrefused b next (Visit i a l) Skip w ns e = ap (λ (x : Board). is_refused x.phase) (sym (same_Some (passed_by b i l) next e)) ∙ onward_on (suc i) l
  weave_unrefused b next (Visit i a l) Try w ns e = ap (λ (x : Board). is_refused x.phase) (sym (same_Some (record b { phase = Asked i a l }) next e))
  weave_unrefused b next (RefusedPhase i a l) Skip w ns e = ap (λ (x : Board). is_refused x.phase) (sym (same_Some (passed_by b i l) next e)) ∙ onward_on (suc i) l
  weave_unrefused b next (Visit i a l) Grant w ns e = absurd (none-some next e)
  weave_unrefused b next (Visit i a l) Refuse w ns e = absurd (none-some next e)
  weave_unrefused b next (Visit i a l) OnMove w ns e = absurd (none-some next e)
  weave_unrefused b next (Visit i a l) LeftMove w ns e = absurd (none-some next e)
  weave_unrefused b next (Visit i a l) RightMove w ns e = absurd (none-some next e)
  weave_unrefused b next (Visit i a l) OpenedMove w ns e = absurd (none-some next e)
  weave_unrefused b next (Visit i a l) FailedMove w ns e = absurd (none-some next e)
  weave_unrefused b next (Visit i a l) StopMove w ns e = absurd (ns refl)
  weave_unrefused b next (RefusedPhase i a l) Try w ns e = absurd (none-some next e)
  weave_unrefused b next (RefusedPhase i a l) Grant w ns e = absurd (none-some next e)
  weave_unrefused b next (RefusedPhase i a l) Refuse w ns e = absurd (none-some next e)
  weave_unrefused b next (RefusedPhase i a l) OnMove w ns e = absurd (none-some next e)
  weave_unrefused b next (RefusedPhase i a l) LeftMove w ns e = absurd (none-some next e)
  weave_unrefused b next (RefusedPhase i a l) RightMove w ns e = absurd (none-some next e)
  weave_unrefused b next (RefusedPhase i a l) OpenedMove w ns e = absurd (none-some next e)
  weave_unrefused b next (RefusedPhase i a l) FailedMove w ns e = absurd (none-some next e)
  weave_unrefused b next (RefusedPhase i a l) StopMove w ns e = absurd (ns refl)
  weave_unrefused b next (Asked i a l) m w ns e = absurd w
  weave_unrefused b next Free m w ns e = absurd w
  weave_unrefused b next FreeSplit m w ns e = absurd w
  weave_unrefused b next Over m w ns e = absurd w

  module _ (weaver : Option Table) (start : Going) where
    -- the state was come to by a refusal that took an entry
    record Taken (t : Going) : Type 0 where
      before : Going
      comes : Comes source p weaver start before
      stage : ℕ
      primitive : Primitive
      later : List Primitive
      asked : before.woven.board.phase ≡ Asked stage primitive later
      grantable : may_grant before.woven.board.caps primitive ≡ true
      left : List Move
      is_taken : before.tries ≡ Refuse ∷ left
      next : State
      refuses : Leads source p weaver before.woven Refuse next
      same : t ≡ record before { woven = next; tries = left }

    -- the run comes to this state; where a stop can come next it was so come to
    abbrev Here : Going → Type 0
    Here t = Comes source p weaver start t × (is_refused t.woven.board.phase ≡ true → Taken t)

    ask_taken : (t : Going) (stage : ℕ) (a : Primitive) (later : List Primitive) (next : State) → Comes source p weaver start t → t.woven.board.phase ≡ Asked stage a later
        → Leads source p weaver t.woven (answer p t.woven.board a t.tries).0 next → is_refused next.board.phase ≡ true
        → Taken (record t { woven = next; tries = (answer p t.woven.board a t.tries).1 })
    ask_taken t stage a later next c q h r =
        let b = t.woven.board in
        let by = (answer p b a t.tries).0 in
        let e = answer_refused b next.board stage a later by (subst (λ (x : Phase). moved p b x by ≡ Some next.board) q (leads_moved source p weaver t.woven by next h)) r in
        let can = and_parts (is_refusable p.policy a) (may_grant b.caps a) (and_parts p.policy.stop (is_refusable p.policy a && may_grant b.caps a) e.1).1 in
        let took = both_taken (may_grant b.caps a) (may_refuse p.policy b.caps a) t.tries can.1 (or_right (not (may_grant b.caps a)) (is_refusable p.policy a) can.0) in
        let k = answer_taken t.tries (sym (ap (λ x. x.0) took) ∙ e.0) in
        record {
          before = t;
          comes = c;
          stage = stage;
          primitive = a;
          later = later;
          asked = q;
          grantable = can.1;
          left = k.0;
          is_taken = k.1;
          next = next;
          refuses = subst (λ (x : Move). Leads source p weaver t.woven x next) e.0 h;
          same = ap (λ (x : List Move). record t { woven = next; tries = x }) (ap (λ x. x.1) took ∙ k.2);
        }

    run_refused : (n : ℕ) (t : Going) (v : Values) (seam : SeamId) → Here t → v.stop ≡ Refused seam → Ends source p weaver n t v → IsRefused source p weaver start v
    run_refused n t v seam h e (over _ _ q) = absurd (cc)
    run_refused n t v seam h e (spent _ q) = absurd (cc)
    run_refused n t v seam h e (weaves k _ m next _ w c ns mv rest) =
        run_refused n (record t { woven = next; tried = counted m t.tried }) v seam (
          comes_weaving t m next h.0 w c ns mv,
          λ r. absurd (both_ways (is_refused next.board.phase) (weave_unrefused t.woven.board next.board t.woven.board.phase m w ns (leads_moved source p weaver t.woven m next mv)) r),
        ) e rest
    run_refused n t v seam h e (quits k _ next seam2 w c mv f) =
        let x = h.1 (stop_refused source p t.woven.board next.board t.woven.board.phase refl w (leads_moved source p weaver t.woven StopMove next mv)) in
        record {
          before = x.before;
          comes = x.comes;
          stage = x.stage;
          primitive = x.primitive;
          later = x.later;
          asked = x.asked;
          grantable = x.grantable;
          left = x.left;
          taken = x.is_taken;
          next = x.next;
          refuses = x.refuses;
          seam = seam2;
          ends = ap (λ (y : Going). ended_values y (Refused seam2)) x.same;
        }
    run_refused n t v seam h e (asks k _ stage a later next _ q mv rest) =
        run_refused n (record t { woven = next; tries = (answer p t.woven.board a t.tries).1 }) v seam
        (comes_asking t stage a later next h.0 q mv, ask_taken t stage a later next h.0 q mv) e rest
    run_refused n t v seam h e (steps k _ way m next _ fr st mv rest) =
        let l = lands source p t.woven.board next.board t.woven.board.phase way fr (leads_moved source p weaver t.woven (move_of way) next mv) in
        run_refused k (record t { woven = next; machine = m }) v seam (
          comes_stepping t way m next h.0 fr st mv,
          λ r. absurd (both_ways (is_refused (begin p.policy l.stack)) (begin_on p.policy l.stack) (sym (ap is_refused l.is_phase) ∙ r)),
        ) e rest
    run_refused n t v seam h e (halted k _ why m fr st) =
        absurd (subst IsPlaced e (subst Placed st (step_placed source (is_split t.woven.board.phase) t.woven.board.stack t.machine)))

-- ---- the turns of declarations at file scope stop at expressions

then_placed : {A B : Type 0} (o : Outcome A) (f : A → Memory → Outcome B) → StopsPlaced o → ((a : A) (k : Memory) → StopsPlaced (f a k)) → StopsPlaced (o and f)
then_placed (gives a k) f h g = g a k
then_placed (stops why k) f h g = h

module _ (s : Scope) where
  value_placed : (e : Tree) (m : Memory) → StopsPlaced (value s e m)
  value_placed e m = ends_placed m (value s e m) (value_quiet Grows AnyTarget growing s e (any_quiet s e) m m (growing.same m))

  size_placed : (at : ℕ) (z : ℤ) (m : Memory) → StopsPlaced (size_if at z m)
  size_placed at (pos n) m = by_kind (nat_le n most_elements) where
    by_kind : (b : Bool) → StopsPlaced (cond b (gives n m) (stops (Form at) m))
    by_kind true = tt
    by_kind false = tt
  size_placed at (negsuc n) m = tt

  sized_placed : (size : Option Tree) (braces : Bool) (init : Trees) (m : Memory) → StopsPlaced (sized s size braces init m)
  sized_placed None braces init m = tt
  sized_placed (Some e) braces init m = then_placed (value s e m) (size_if (from_of e)) (value_placed e m) (λ z k. size_placed (from_of e) z k)

  one_placed : (b : Bool) (at : ℕ) (p : Location) (i : ℕ) (e : Tree) (m : Memory) → StopsPlaced (listed_one s b at p i (value s e) m)
  one_placed true at p i e m = then_placed (value s e m) (λ z k. gives done (stored k (element_target p i) z)) (value_placed e m) (λ z k. tt)
  one_placed false at p i e m = tt

  filled_placed : (p : Location) (size i : ℕ) (es : Trees) (m : Memory) → StopsPlaced (filled s p size i es m)
  filled_placed p size i none m = tt
  filled_placed p size i (more e es) m =
      then_placed (listed_one s (nat_lt i size) (from_of e) p i (value s e) m) (λ d k. filled s p size (i + 1) es k) (one_placed (nat_lt i size) (from_of e) p i e m)
      (λ d k. filled_placed p size (i + 1) es k)

  list_placed : (p : Location) (braces : Bool) (init : Trees) (size : ℕ) (m : Memory) → StopsPlaced (with_list s p braces init size m)
  list_placed p true init size m =
      then_placed (filled s p size 0 init (made_array m p (replicate size None))) (λ d k. gives done (with_zeros s p size (count init) k))
      (filled_placed p size 0 init (made_array m p (replicate size None))) (λ d k. tt)
  list_placed p false none size m = tt
  list_placed p false (more e es) size m = tt

  rest_placed : (es : Trees) (m : Memory) → StopsPlaced (rest_stops s es m)
  rest_placed none m = tt
  rest_placed (more e es) m = tt

module _ (s : Source) where
  abbrev outer : Scope
  outer = scope_in s None

  once_placed : (b : Bool) (p : Location) (c : Cell) (n : ℕ) (m : Memory) → StopsPlaced (made_once s b p c n m)
  once_placed true p c n m = tt
  once_placed false p c n m = tt

  array_placed : (earlier : List Declared) (p : Location) (name : List ℕ) (i : Declared) (init : Trees) (m : Memory) → StopsPlaced (array_turn s earlier p name i init m)
  array_placed earlier p name i none m =
      then_placed (sized outer (size_in i.array) i.braces i.init m) (λ n k. made_once s (list_any (λ e. is_named s name e && has_size s e) earlier) p (start_cell s name) n k)
      (sized_placed outer (size_in i.array) i.braces i.init m) (λ n k. once_placed (list_any (λ e. is_named s name e && has_size s e) earlier) p (start_cell s name) n k)
  array_placed earlier p name i (more e es) m =
      then_placed (sized outer (size_in i.array) i.braces i.init m) (with_list outer p i.braces i.init) (sized_placed outer (size_in i.array) i.braces i.init m)
      (λ n k. list_placed outer p i.braces i.init n k)

  plain_placed : (p : Location) (init : Trees) (m : Memory) → StopsPlaced (plain_turn s p init m)
  plain_placed p none m = tt
  plain_placed p (more e es) m =
      then_placed (value outer e m) (λ z k. rest_stops outer es (made_plain k p (Some z))) (value_placed outer e m) (λ z k. rest_placed outer es (made_plain k p (Some z)))

  turn_placed : (earlier : List Declared) (name : List ℕ) (i : Declared) (p : Location) (m : Memory) → StopsPlaced (turn_at s earlier name i p m)
  turn_placed earlier name i (Shared n) m = plain_placed (Shared n) i.init m
  turn_placed earlier name i (SharedArray n) m = array_placed earlier (SharedArray n) name i i.init m
  turn_placed earlier name i (Own n) m = tt
  turn_placed earlier name i (OwnArray n) m = tt
  turn_placed earlier name i Nowhere m = tt

  pub turns_placed : (earlier is : List Declared) (m : Memory) → StopsPlaced (turns s earlier is m)
  turns_placed earlier [] m = tt
  turns_placed earlier (i ∷ is) m =
      then_placed (turn_at s earlier (text s.bytes i.name) i (location_of outer (text s.bytes i.name)) m) (λ d k. turns s (earlier ++ i ∷ []) is k)
      (turn_placed earlier (text s.bytes i.name) i (location_of outer (text s.bytes i.name)) m) (λ d k. turns_placed (earlier ++ i ∷ []) is k)

module _ (s : Source) (p : Problem) (weaver : Option Table) (tries : List Move) where
  start_unrefused : (m : Memory) → is_refused (going_start s p weaver tries m).woven.board.phase ≡ true → ⊥
  start_unrefused m = by_weaver weaver where
    by_weaver : (w : Option Table) → is_refused (going_start s p w tries m).woven.board.phase ≡ true → ⊥
    by_weaver None r = both_ways (is_refused (begin p.policy (start_stack p.plan))) (begin_on p.policy (start_stack p.plan)) r
    by_weaver (Some t) r = both_ways (is_refused (begin p.policy (start_stack p.plan))) (begin_on p.policy (start_stack p.plan)) r

  from_refused : (o : Outcome Done) (v : Values) (seam : SeamId) → StopsPlaced o → v.stop ≡ Refused seam → RunsFrom s p weaver tries o v
      → (m : Memory) × (o ≡ gives done m) × IsRefused s p weaver (going_start s p weaver tries m) v
  from_refused (stops why m) v seam h e r = absurd (subst IsPlaced (ap (λ (x : Values). x.stop) (sym r) ∙ e) h)
  from_refused (gives done m) v seam h e r =
      (m, refl, run_refused s p weaver (going_start s p weaver tries m) most_steps (going_start s p weaver tries m) v seam (here, λ k. absurd (start_unrefused m k)) e r)

pub refusals_are_taken : RefusalsAreTaken
refusals_are_taken weaver policy bytes file handed_in v seam e h =
    let s = source_of bytes file handed_in in
    from_refused s (problem_of policy bytes file) weaver handed_in.tries (begun s handed_in.calls) v seam
    (turns_placed s [] (globals file) (record { own = no_store; shared = start_store s; calls = handed_in.calls; made = [] })) e h
