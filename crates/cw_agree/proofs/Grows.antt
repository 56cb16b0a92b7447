-- The calls made only grow in number, and what a step does with the file's values besides what its deed does.
use Rattle.std.proofs.Common.{◌≡◌, ℕ, ℤ, List, [], ◌∷◌, ◌++◌, Bool, Option, Some, None, refl, sym, ap, subst, ◌∙◌}
use Rattle.std.specs.Prelude.{unwrap_or}
use Rattle.std.proofs.lemmas.List.{append-nil, append_assoc}
use Rattle.cw_certs.specs.Tables.{Table}
use Rattle.cw_syntax.specs.declared.program.Name.{Name}
use Rattle.cw_syntax.specs.declared.program.Op.{Op}
use Rattle.cw_syntax.specs.declared.program.Op.TheVariants.{Name as NameOp, Number, Char, Text as TextOp, Call as CallOp, Index as IndexOp, Prefix, Suffix, Binary, Assign, Cast, SizeOf, SizeOfType}
use Rattle.cw_syntax.specs.Names.{text}
use Rattle.cw_syntax.specs.Trees.{Tree, Node, Trees, none, more, Declared, Definition, op_of, parts_of}
use Rattle.cw_syntax.specs.Plans.{Plain, Break, Continue, Return, Open, Close, Call, Group, Label, If, While, Do, For}
use Rattle.cw_syntax.specs.Frames.{Item, Entry, Todo, Test, After, LoopEnd, End, Frame}
use Rattle.cw_model.specs.Boards.{Problem}
use Rattle.cw_value.specs.Stores.{Cell}
use Rattle.cw_value.specs.Expressions.{Made, Scope, Memory, Outcome, gives, stops, location_of, Target, OwnSpot, SharedSpot, Nothing, stored, target_at, from_of, to_of}
use Rattle.cw_value.specs.Declarations.{size_in}
use Rattle.cw_value.specs.Deeds.{Deed, Rests, Computes, Makes, Decides, Opens, Calls, Answers, Passing, deed_of, does}
use Rattle.cw_value.specs.Machines.{Source, Locals, Machine, Step, goes, halts, step, step_by, within, by_outcome, entered, settled_in, answering, deed_in, scope_in, function, memory, ends_in, call_in, back_by, back_to, result_by, taken_over, taken_by, form_in, whole_from}
use Rattle.cw_value.specs.Shown.{Values}
use Rattle.cw_value.specs.Runs.{Going, Ends, over, spent, weaves, quits, asks, steps, halted, is_split}
use Rattle.cw_agree.proofs.Keeps.{Keeping, spared_at, SparesFirst, Quiet, QuietAll, QuietIf, QuietItems, QuietDeed, Ends as EndsBy, Any, does_keeps}

-- a list goes on with more
abbrev pub Longer : List Made → List Made → Type 0
Longer before after = (rest : List Made) × (after ≡ before ++ rest)

pub no_longer : (before after : List Made) → after ≡ before → Longer before after
no_longer before after e = ([], e ∙ sym (append-nil before))

pub longer_yet : (a b c : List Made) → Longer a b → Longer b c → Longer a c
longer_yet a b c h k = (h.0 ++ k.0, k.1 ∙ ap (λ x. x ++ k.0) h.1 ∙ append_assoc a h.0 k.0)

abbrev pub Grows : Memory → Memory → Type 0
Grows m k = Longer m.made k.made

abbrev pub AnyTarget : Target → Type 0
AnyTarget t = Unit {0}

stored_made : (m : Memory) (t : Target) (z : ℤ) → (stored m t z).made ≡ m.made
stored_made m (OwnSpot p) z = refl
stored_made m (SharedSpot p) z = refl
stored_made m Nothing z = refl

pub growing : Keeping Grows AnyTarget
growing = record {
  same = λ m. no_longer m.made m.made refl;
  joins = λ m k l h j. longer_yet m.made k.made l.made h j;
  nothing = tt;
  own = λ p. tt;
  store = λ m t z u. no_longer m.made (stored m t z).made (stored_made m t z);
  answer = λ m z zs call. (call ∷ [], refl);
  array = λ m n cells. no_longer m.made m.made refl;
  plain = λ m n c. no_longer m.made m.made refl;
}

-- ---- any expression is quiet where anything may be changed

module _ (s : Scope) where
  any_spared : (op : Op) (parts : Trees) (from to : ℕ) → spared_at AnyTarget s op parts from to
  any_spared NameOp parts from to = tt
  any_spared IndexOp parts from to = λ i. tt
  any_spared (Number n) parts from to = tt
  any_spared (Char n) parts from to = tt
  any_spared TextOp parts from to = tt
  any_spared (CallOp f) parts from to = tt
  any_spared (Prefix n) parts from to = tt
  any_spared (Suffix n) parts from to = tt
  any_spared (Binary n) parts from to = tt
  any_spared (Assign n) parts from to = tt
  any_spared (Cast kind) parts from to = tt
  any_spared SizeOf parts from to = tt
  any_spared (SizeOfType kind) parts from to = tt

  any_first : (ts : Trees) → SparesFirst AnyTarget s ts
  any_first none = tt
  any_first (more t ts) = any_spared (op_of t) (parts_of t) (from_of t) (to_of t)

  mutual
    pub any_quiet : (t : Tree) → Quiet AnyTarget s t
    any_quiet (Node op parts from to) = (λ c. any_first parts, any_all parts)

    any_all : (ts : Trees) → QuietAll AnyTarget s ts
    any_all none = tt
    any_all (more t ts) = (any_quiet t, any_all ts)

  any_if : (e : Option Tree) → QuietIf AnyTarget s e
  any_if None = tt
  any_if (Some e) = any_quiet e

  any_items : (is : List Declared) → QuietItems AnyTarget s is
  any_items [] = tt
  any_items (i ∷ is) = ((any_if (size_in i.array), any_all i.init), any_items is)

  pub any_deed : (d : Deed) → QuietDeed AnyTarget s d
  any_deed Rests = tt
  any_deed (Computes e) = any_if e
  any_deed (Makes d) = any_items d.items
  any_deed (Decides e) = any_if e
  any_deed (Opens e) = any_if e
  any_deed (Calls es) = any_all es
  any_deed (Answers e) = any_if e

-- ---- a step

-- what holds of the machine after a step
abbrev pub Behind : (Machine → Type 0) → Step → Type 0
Behind P (goes way m) = P m
Behind P (halts why m) = P m

-- the memory after an outcome
abbrev pub left_by : {A : Type 0} → Outcome A → Memory
left_by (gives a m) = m
left_by (stops why m) = m

pub ends_left : {A : Type 0} (R : Memory → Memory → Type 0) (Spared : Target → Type 0) (keep : Keeping R Spared) (m : Memory) (o : Outcome A)
    → EndsBy R Spared keep m (Any R Spared keep) o → R m (left_by o)
ends_left R Spared keep m (gives a k) h = h.1
ends_left R Spared keep m (stops why k) h = h.1

module _ (s : Source) where
  -- entering a call changes frames alone
  entered_keeps : (split : Bool) (i : Item) (p : Passing) (m : Machine) → ((entered s split i p m).made ≡ m.made) × ((entered s split i p m).shared ≡ m.shared)
  entered_keeps split (Entry f j) p m = (refl, refl)
  entered_keeps split (Test at d u b) p m = (refl, refl)
  entered_keeps split (After at) p m = (refl, refl)
  entered_keeps split LoopEnd p m = (refl, refl)
  entered_keeps split (End f) p m = (refl, refl)
  entered_keeps split (Todo (Plain at)) p m = (refl, refl)
  entered_keeps split (Todo (Break at)) p m = (refl, refl)
  entered_keeps split (Todo (Continue at)) p m = (refl, refl)
  entered_keeps split (Todo (Return at)) p m = (refl, refl)
  entered_keeps split (Todo (Open at j d)) p m = (refl, refl)
  entered_keeps split (Todo (Close at j d)) p m = (refl, refl)
  entered_keeps split (Todo (Call at j callee)) p m = (refl, refl)
  entered_keeps split (Todo (Group ss)) p m = (refl, refl)
  entered_keeps split (Todo (Label at mark j l b)) p m = (refl, refl)
  entered_keeps split (Todo (If at a b)) p m = (refl, refl)
  entered_keeps split (Todo (While at b)) p m = (refl, refl)
  entered_keeps split (Todo (Do at b)) p m = (refl, refl)
  entered_keeps split (Todo (For at init d u b)) p m = (refl, refl)

  -- the machine's calls and the file's values after a deed are those of the memory
  pub outcome_keeps : (split : Bool) (i : Item) (top : Locals) (rest : List Locals) (o : Outcome Passing)
      → Behind (λ m. (m.made ≡ (left_by o).made) × (m.shared ≡ (left_by o).shared)) (by_outcome s split i top rest o)
  outcome_keeps split i top rest (stops why k) = (refl, refl)
  outcome_keeps split i top rest (gives p k) = entered_keeps split i p (settled_in k (answering p.answer top) rest)

  deed_grows : (f : Option Definition) (i : Item) (t : Scope) (m : Memory) → Grows m (left_by (deed_in f i t m))
  deed_grows None i t m = no_longer m.made m.made refl
  deed_grows (Some f) i t m = ends_left Grows AnyTarget growing m (does t (deed_of f i) m) (does_keeps Grows AnyTarget growing t (deed_of f i) m (any_deed t (deed_of f i)))

  after_weaker : (P Q : Machine → Type 0) (st : Step) → ((m : Machine) → P m → Q m) → Behind P st → Behind Q st
  after_weaker P Q (goes way m) f h = f m h
  after_weaker P Q (halts why m) f h = f m h

  within_grows : (split : Bool) (i : Item) (m : Machine) (ls : List Locals) → Behind (λ k. Longer m.made k.made) (within s split i m ls)
  within_grows split i m [] = no_longer m.made m.made refl
  within_grows split i m (top ∷ rest) =
      let o = deed_in (function s top.function) i (scope_in s (function s top.function)) (memory m top) in
      after_weaker (λ k. (k.made ≡ (left_by o).made) × (k.shared ≡ (left_by o).shared)) (λ k. Longer m.made k.made) (by_outcome s split i top rest o)
      (λ k h. subst (λ x. Longer m.made x) (sym h.0) (deed_grows (function s top.function) i (scope_in s (function s top.function)) (memory m top)))
      (outcome_keeps split i top rest o)

  taken_grows : (at : ℕ) (t : Target) (z : ℤ) (caller : Locals) (rest : List Locals) (m : Machine) → Behind (λ k. Longer m.made k.made) (taken_by at t z caller rest m)
  taken_grows at (OwnSpot p) z caller rest m = no_longer m.made m.made refl
  taken_grows at (SharedSpot p) z caller rest m = no_longer m.made m.made refl
  taken_grows at Nothing z caller rest m = no_longer m.made m.made refl

  over_grows : (at : ℕ) (x : Name) (c : Cell) (caller : Locals) (rest : List Locals) (m : Machine) → Behind (λ k. Longer m.made k.made) (taken_over s at x c caller rest m)
  over_grows at x None caller rest m = no_longer m.made m.made refl
  over_grows at x (Some z) caller rest m =
      taken_grows (whole_from at (form_in (function s caller.function) at)) (target_at (location_of (scope_in s (function s caller.function)) (text s.bytes x))) z caller rest m

  result_grows : (at : ℕ) (x : Option Name) (c : Cell) (caller : Locals) (rest : List Locals) (m : Machine) → Behind (λ k. Longer m.made k.made) (result_by s at x c caller rest m)
  result_grows at None c caller rest m = no_longer m.made m.made refl
  result_grows at (Some x) c caller rest m = over_grows at x c caller rest m

  by_grows : (call : Option (ℕ × Option Name)) (top caller : Locals) (rest : List Locals) (m : Machine) → Behind (λ k. Longer m.made k.made) (back_by s call top caller rest m)
  by_grows None top caller rest m = no_longer m.made m.made refl
  by_grows (Some call) top caller rest m = result_grows call.0 call.1 top.answer caller rest m

  back_grows : (call : Option (ℕ × Option Name)) (top : Locals) (rest : List Locals) (m : Machine) → Behind (λ k. Longer m.made k.made) (back_to s call top rest m)
  back_grows call top [] m = no_longer m.made m.made refl
  back_grows call top (caller ∷ rest) m = by_grows call top caller rest (record m { shared = unwrap_or top.saved m.shared; frames = caller ∷ rest })

  ends_grows : (frames : List Frame) (m : Machine) (ls : List Locals) → Behind (λ k. Longer m.made k.made) (ends_in s frames m ls)
  ends_grows [] m ls = no_longer m.made m.made refl
  ends_grows (frame ∷ frames) m [] = no_longer m.made m.made refl
  ends_grows (frame ∷ frames) m (top ∷ rest) = back_grows (call_in frame) top rest m

  item_grows : (split : Bool) (i : Item) (frames : List Frame) (m : Machine) → Behind (λ k. Longer m.made k.made) (step_by s split i frames m)
  item_grows split (End f) frames m = ends_grows frames m m.frames
  item_grows split (Entry f j) frames m = within_grows split (Entry f j) m m.frames
  item_grows split (Todo b) frames m = within_grows split (Todo b) m m.frames
  item_grows split (Test at d u b) frames m = within_grows split (Test at d u b) m m.frames
  item_grows split (After at) frames m = within_grows split (After at) m m.frames
  item_grows split LoopEnd frames m = within_grows split LoopEnd m m.frames

  -- a step makes further calls, and forgets none
  pub step_grows : (split : Bool) (stack : List Frame) (m : Machine) → Behind (λ k. Longer m.made k.made) (step s split stack m)
  step_grows split [] m = no_longer m.made m.made refl
  step_grows split ([] ∷ frames) m = no_longer m.made m.made refl
  step_grows split ((i ∷ is) ∷ frames) m = item_grows split i frames m

  -- and so does a run
  pub run_grows : (p : Problem) (weaver : Option Table) (n : ℕ) (g : Going) (v : Values) → Ends s p weaver n g v → Longer g.machine.made v.made
  run_grows p weaver n g v (over _ _ q) = no_longer g.machine.made g.machine.made refl
  run_grows p weaver n g v (spent _ q) = no_longer g.machine.made g.machine.made refl
  run_grows p weaver n g v (weaves k _ m next _ w c ns mv rest) = run_grows p weaver _ _ v rest
  run_grows p weaver n g v (quits k _ next seam w c mv f) = no_longer g.machine.made g.machine.made refl
  run_grows p weaver n g v (asks k _ stage a later next _ q mv rest) = run_grows p weaver _ _ v rest
  run_grows p weaver n g v (steps k _ way m next _ h st mv rest) =
      longer_yet g.machine.made m.made v.made
      (subst (Behind (λ x. Longer g.machine.made x.made)) st (step_grows (is_split g.woven.board.phase) g.woven.board.stack g.machine))
      (run_grows p weaver _ _ v rest)
  run_grows p weaver n g v (halted k _ why m h st) =
      subst (Behind (λ x. Longer g.machine.made x.made)) st (step_grows (is_split g.woven.board.phase) g.woven.board.stack g.machine)
