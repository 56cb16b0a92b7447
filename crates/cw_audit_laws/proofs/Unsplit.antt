-- A program whose calls run in no process of their own: its steps are those of the program, but for what the calls say of that.
use Rattle.std.proofs.Common.{◌≡◌, ℕ, zero, ◌+◌, List, [], ◌∷◌, map, Bool, true, false, cond, option_map, Option, Some, None, refl, sym, ap, ap₂, ◌∙◌}
use Rattle.std.specs.Prelude.{slice_get, codes, is_some}
use Rattle.std.specs.Str.{bytes_eq}
use Rattle.std.proofs.lemmas.Option.{slice_get-map}
use Rattle.cw_syntax.specs.declared.program.Name.{Name}
use Rattle.cw_syntax.specs.declared.program.Op.TheVariants.{Name as NameOp, Number, Call as CallOp, Assign}
use Rattle.cw_syntax.specs.Names.{Names, number_in, number_or_other, text}
use Rattle.cw_syntax.specs.Trees.{Tree, Node, Trees, none, more, Statement, Stated, Form, Block, Declares, Evaluates, Empties, Labels, Chooses, Whiles, Does, Fors, Breaks, Continues, Returns}
use Rattle.cw_syntax.specs.Trees.{Perhaps, nothing, just, Statements, nil, cons, Definition, File}
use Rattle.cw_syntax.specs.Plans.{Callee, Action, Computes, Opens, Closes, Invokes, Scene, opens_if, closes_if, descriptor_of, closed_by, call_action, assigned_action, action_of}
use Rattle.cw_syntax.specs.Plans.{Stm, Plain, Break, Continue, Return, Open, Close, Call, Group, Label, If, While, Do, For, Stms, end, then}
use Rattle.cw_syntax.specs.Plans.{acting, place_if, steps_of, steps_of_form, steps_of_arm, steps_of_all}
use Rattle.cw_syntax.specs.Plans.{seams, seams_all, numbered, numbered_all, Routine, Plan, routines_from, scene_of, plan_of}
use Rattle.cw_syntax.specs.Frames.{Item, Entry, Todo, Test, After, LoopEnd, End, Frame, items_of, new_frame, frame_of, expanded, expanded_all, settle, broken, continued, ended}
use Rattle.cw_syntax.specs.Frames.{Way, On, Left, Right, Opened, Failed, after, popped, pushed, pass, stack_of, start_stack}

-- ---- statements without the splits of their calls

abbrev pub whole_callee : Callee → Callee
whole_callee c = record { number = c.number; split = false; result = c.result }

abbrev mutual
  pub whole_stm : Stm → Stm
  whole_stm (Plain at) = Plain at
  whole_stm (Break at) = Break at
  whole_stm (Continue at) = Continue at
  whole_stm (Return at) = Return at
  whole_stm (Open at j d) = Open at j d
  whole_stm (Close at j d) = Close at j d
  whole_stm (Call at j callee) = Call at j (whole_callee callee)
  whole_stm (Group ss) = Group (whole_stms ss)
  whole_stm (Label at mark j l s) = Label at mark j l (whole_stm s)
  whole_stm (If at s t) = If at (whole_stm s) (whole_stm t)
  whole_stm (While at s) = While at (whole_stm s)
  whole_stm (Do at s) = Do at (whole_stm s)
  whole_stm (For at init decided stepped s) = For at init decided stepped (whole_stm s)

  pub whole_stms : Stms → Stms
  whole_stms end = end
  whole_stms (then s ss) = then (whole_stm s) (whole_stms ss)

abbrev pub whole_routine : Routine → Routine
whole_routine r = record { mark = r.mark; seam = r.seam; body = whole_stms r.body }

abbrev pub whole_plan : Plan → Plan
whole_plan plan = record { routines = map whole_routine plan.routines; main = plan.main }

abbrev pub whole_item : Item → Item
whole_item (Entry f j) = Entry f j
whole_item (Todo s) = Todo (whole_stm s)
whole_item (Test at decided stepped s) = Test at decided stepped (whole_stm s)
whole_item (After at) = After at
whole_item LoopEnd = LoopEnd
whole_item (End f) = End f

abbrev pub whole_frame : Frame → Frame
whole_frame frame = map whole_item frame

abbrev pub whole_stack : List Frame → List Frame
whole_stack stack = map whole_frame stack

-- ---- they are those of the same source under names without splits

abbrev pub unsplit : Names → Names
unsplit names = record { descriptors = names.descriptors; labels = names.labels; splits = [] }

abbrev pub unsplit_in : Scene → Scene
unsplit_in s = record { source = s.source; functions = s.functions; names = unsplit s.names }

abbrev whole_action : Action → Action
whole_action (Invokes callee) = Invokes (whole_callee callee)
whole_action action = action

module _ (s : Scene) where
  opens_whole : (o : Option ℕ) → whole_action (opens_if o) ≡ opens_if o
  opens_whole None = refl
  opens_whole (Some d) = refl

  closes_whole : (o : Option ℕ) → whole_action (closes_if o) ≡ closes_if o
  closes_whole None = refl
  closes_whole (Some d) = refl

  descriptor_same : (t : Tree) → descriptor_of s t ≡ descriptor_of (unsplit_in s) t
  descriptor_same (Node NameOp parts from to) = refl
  descriptor_same (Node (Number n) parts from to) = refl
  descriptor_same _ = refl

  closing_whole : (b : Bool) (t : Tree) → whole_action (cond b (closes_if (descriptor_of s t)) Computes) ≡ cond b (closes_if (descriptor_of (unsplit_in s) t)) Computes
  closing_whole true t = closes_whole (descriptor_of s t) ∙ ap closes_if (descriptor_same t)
  closing_whole false t = refl

  closed_whole : (name : List ℕ) (ts : Trees) → whole_action (closed_by s name ts) ≡ closed_by (unsplit_in s) name ts
  closed_whole name (more t none) = closing_whole (bytes_eq name (codes "close")) t
  closed_whole name none = refl
  closed_whole name (more t (more u ts)) = refl

  call_whole : (name : List ℕ) (ts : Trees) (o : Option ℕ) → whole_action (call_action s name ts o) ≡ call_action (unsplit_in s) name ts o
  call_whole name ts (Some f) = refl
  call_whole name ts None = closed_whole name ts

  assigned_whole : (x : Name) (name : List ℕ) (o : Option ℕ) → whole_action (assigned_action s x name o) ≡ assigned_action (unsplit_in s) x name o
  assigned_whole x name (Some f) = refl
  assigned_whole x name None = opens_whole (number_in s.names.descriptors (text s.source x))

  action_whole : (t : Tree) → whole_action (action_of s t) ≡ action_of (unsplit_in s) t
  action_whole (Node (CallOp f) arguments from to) = call_whole (text s.source f) arguments (number_in s.functions (text s.source f))
  action_whole (Node (Assign zero) (more (Node NameOp parts at last) (more (Node (CallOp f) arguments at' last') none)) from to) =
      assigned_whole (record { from = at; to = last }) (text s.source f) (number_in s.functions (text s.source f))
  action_whole _ = refl

  acting_whole : (action : Action) (at : ℕ) → whole_stm (acting action at) ≡ acting (whole_action action) at
  acting_whole Computes at = refl
  acting_whole (Opens d) at = refl
  acting_whole (Closes d) at = refl
  acting_whole (Invokes callee) at = refl

  mutual
    steps_whole : (st : Statement) → whole_stm (steps_of s st) ≡ steps_of (unsplit_in s) st
    steps_whole (Stated form from to) = form_whole from form

    form_whole : (at : ℕ) (form : Form) → whole_stm (steps_of_form s at form) ≡ steps_of_form (unsplit_in s) at form
    form_whole at (Block ss) = ap Group (all_whole ss)
    form_whole at (Declares d) = refl
    form_whole at (Evaluates e) = acting_whole (action_of s e) at ∙ ap (λ a. acting a at) (action_whole e)
    form_whole at Empties = refl
    form_whole at (Labels name mark body) = ap (Label at mark 0 (number_or_other s.names.labels (text s.source name))) (steps_whole body)
    form_whole at (Chooses test arm other) = ap₂ (If at) (steps_whole arm) (arm_whole other)
    form_whole at (Whiles test body) = ap (While at) (steps_whole body)
    form_whole at (Does body test) = ap (Do at) (steps_whole body)
    form_whole at (Fors init test step body) = ap (For at (place_if init) (is_some test) (is_some step)) (steps_whole body)
    form_whole at Breaks = refl
    form_whole at Continues = refl
    form_whole at (Returns value) = refl

    arm_whole : (arm : Perhaps) → whole_stm (steps_of_arm s arm) ≡ steps_of_arm (unsplit_in s) arm
    arm_whole nothing = refl
    arm_whole (just arm) = steps_whole arm

    all_whole : (ss : Statements) → whole_stms (steps_of_all s ss) ≡ steps_of_all (unsplit_in s) ss
    all_whole nil = refl
    all_whole (cons one rest) = ap₂ then (steps_whole one) (all_whole rest)

mutual
  seams_same : (s : Stm) → seams (whole_stm s) ≡ seams s
  seams_same (Plain at) = refl
  seams_same (Break at) = refl
  seams_same (Continue at) = refl
  seams_same (Return at) = refl
  seams_same (Open at j d) = refl
  seams_same (Close at j d) = refl
  seams_same (Call at j callee) = refl
  seams_same (Group ss) = seams_all_same ss
  seams_same (Label at mark j l s) = ap (λ n. n + 1) (seams_same s)
  seams_same (If at s t) = ap₂ (λ m n. m + n) (seams_same s) (seams_same t)
  seams_same (While at s) = seams_same s
  seams_same (Do at s) = seams_same s
  seams_same (For at init decided stepped s) = seams_same s

  seams_all_same : (ss : Stms) → seams_all (whole_stms ss) ≡ seams_all ss
  seams_all_same end = refl
  seams_all_same (then s ss) = ap₂ (λ m n. m + n) (seams_same s) (seams_all_same ss)

mutual
  numbered_whole : (s : Stm) (j : ℕ) → whole_stm (numbered s j) ≡ numbered (whole_stm s) j
  numbered_whole (Plain at) j = refl
  numbered_whole (Break at) j = refl
  numbered_whole (Continue at) j = refl
  numbered_whole (Return at) j = refl
  numbered_whole (Open at i d) j = refl
  numbered_whole (Close at i d) j = refl
  numbered_whole (Call at i callee) j = refl
  numbered_whole (Group ss) j = ap Group (numbered_all_whole ss j)
  numbered_whole (Label at mark i l s) j = ap (Label at mark j l) (numbered_whole s (j + 1))
  numbered_whole (If at s t) j = ap₂ (If at) (numbered_whole s j) (numbered_whole t (j + seams s) ∙ ap (λ n. numbered (whole_stm t) (j + n)) (sym (seams_same s)))
  numbered_whole (While at s) j = ap (While at) (numbered_whole s j)
  numbered_whole (Do at s) j = ap (Do at) (numbered_whole s j)
  numbered_whole (For at init decided stepped s) j = ap (For at init decided stepped) (numbered_whole s j)

  numbered_all_whole : (ss : Stms) (j : ℕ) → whole_stms (numbered_all ss j) ≡ numbered_all (whole_stms ss) j
  numbered_all_whole end j = refl
  numbered_all_whole (then s ss) j = ap₂ then (numbered_whole s j) (numbered_all_whole ss (j + seams s) ∙ ap (λ n. numbered_all (whole_stms ss) (j + n)) (sym (seams_same s)))

routines_whole : (s : Scene) (j : ℕ) (fs : List Definition) → map whole_routine (routines_from s j fs) ≡ routines_from (unsplit_in s) j fs
routines_whole s j [] = refl
routines_whole s j (f ∷ fs) =
    let body = all_whole s f.body in
    let many : seams_all (steps_of_all s f.body) ≡ seams_all (steps_of_all (unsplit_in s) f.body) = sym (seams_all_same (steps_of_all s f.body)) ∙ ap seams_all body in
    ap₂ (λ (x : Routine) (xs : List Routine). x ∷ xs)
    (ap (λ (ss : Stms). record { mark = f.brace; seam = j; body = ss }) (numbered_all_whole (steps_of_all s f.body) (j + 1) ∙ ap (λ (ss : Stms). numbered_all ss (j + 1)) body))
    (routines_whole s (j + 1 + seams_all (steps_of_all s f.body)) fs ∙ ap (λ n. routines_from (unsplit_in s) (j + 1 + n) fs) many)

-- The lemma on plans.
pub plan_whole : (names : Names) (source : List ℕ) (file : File) → whole_plan (plan_of names source file) ≡ plan_of (unsplit names) source file
plan_whole names source file = λ i. record { routines = routines_whole (scene_of names source file) 0 file.functions i; main = (plan_of names source file).main }

-- ---- their steps

items_whole : (ss : Stms) (rest : Frame) → whole_frame (items_of ss rest) ≡ items_of (whole_stms ss) (whole_frame rest)
items_whole end rest = refl
items_whole (then s ss) rest = ap (λ (frame : Frame). Todo (whole_stm s) ∷ frame) (items_whole ss rest)

mutual
  expanded_whole : (s : Stm) (rest next : Frame) → whole_frame (expanded s rest next) ≡ expanded (whole_stm s) (whole_frame rest) (whole_frame next)
  expanded_whole (Plain at) rest next = refl
  expanded_whole (Break at) rest next = refl
  expanded_whole (Continue at) rest next = refl
  expanded_whole (Return at) rest next = refl
  expanded_whole (Open at j d) rest next = refl
  expanded_whole (Close at j d) rest next = refl
  expanded_whole (Call at j callee) rest next = refl
  expanded_whole (Group ss) rest next = all_expanded_whole ss rest next
  expanded_whole (Label at mark j l s) rest next = refl
  expanded_whole (If at s t) rest next = refl
  expanded_whole (While at s) rest next = refl
  expanded_whole (Do at s) rest next = expanded_whole s (Test at true false s ∷ (LoopEnd ∷ rest)) (Test at true false s ∷ (LoopEnd ∷ rest))
  expanded_whole (For at None decided stepped s) rest next = refl
  expanded_whole (For at (Some init) decided stepped s) rest next = refl

  all_expanded_whole : (ss : Stms) (rest next : Frame) → whole_frame (expanded_all ss rest next) ≡ expanded_all (whole_stms ss) (whole_frame rest) (whole_frame next)
  all_expanded_whole end rest next = refl
  all_expanded_whole (then s ss) rest next =
      expanded_whole s (items_of ss rest) (expanded_all ss rest next)
      ∙ ap₂ (λ (a b : Frame). expanded (whole_stm s) a b) (items_whole ss rest) (all_expanded_whole ss rest next)

settle_whole : (frame : Frame) → whole_frame (settle frame) ≡ settle (whole_frame frame)
settle_whole [] = refl
settle_whole (Entry f j ∷ rest) = refl
settle_whole (Todo s ∷ rest) = expanded_whole s rest (settle rest) ∙ ap (λ (next : Frame). expanded (whole_stm s) (whole_frame rest) next) (settle_whole rest)
settle_whole (Test at decided stepped s ∷ rest) = refl
settle_whole (After at ∷ rest) = refl
settle_whole (LoopEnd ∷ rest) = settle_whole rest
settle_whole (End f ∷ rest) = refl

broken_whole : (frame : Frame) → option_map whole_frame (broken frame) ≡ broken (whole_frame frame)
broken_whole [] = refl
broken_whole (LoopEnd ∷ rest) = refl
broken_whole (Entry f j ∷ rest) = broken_whole rest
broken_whole (Todo s ∷ rest) = broken_whole rest
broken_whole (Test at decided stepped s ∷ rest) = broken_whole rest
broken_whole (After at ∷ rest) = broken_whole rest
broken_whole (End f ∷ rest) = broken_whole rest

continued_whole : (frame : Frame) → option_map whole_frame (continued frame) ≡ continued (whole_frame frame)
continued_whole [] = refl
continued_whole (Test at decided stepped s ∷ rest) = refl
continued_whole (After at ∷ rest) = refl
continued_whole (LoopEnd ∷ rest) = continued_whole rest
continued_whole (Entry f j ∷ rest) = continued_whole rest
continued_whole (Todo s ∷ rest) = continued_whole rest
continued_whole (End f ∷ rest) = continued_whole rest

ended_whole : (frame : Frame) → whole_frame (ended frame) ≡ ended (whole_frame frame)
ended_whole [] = refl
ended_whole (End f ∷ rest) = ap (λ (frame : Frame). End f ∷ frame) (ended_whole rest)
ended_whole (LoopEnd ∷ rest) = ended_whole rest
ended_whole (Entry f j ∷ rest) = ended_whole rest
ended_whole (Todo s ∷ rest) = ended_whole rest
ended_whole (Test at decided stepped s ∷ rest) = ended_whole rest
ended_whole (After at ∷ rest) = ended_whole rest

-- what is to do after an item
abbrev IsWholeAfter : Item → Way → Frame → Type 0
IsWholeAfter i way rest = option_map whole_frame (after i way rest) ≡ after (whole_item i) way (whole_frame rest)

after_stm : (s : Stm) (way : Way) (rest : Frame) → IsWholeAfter (Todo s) way rest
after_stm (Plain at) On rest = refl
after_stm (Plain at) _ rest = refl
after_stm (Break at) On rest = broken_whole rest
after_stm (Break at) _ rest = refl
after_stm (Continue at) On rest = continued_whole rest
after_stm (Continue at) _ rest = refl
after_stm (Return at) On rest = ap (λ (frame : Frame). Some frame) (ended_whole rest)
after_stm (Return at) _ rest = refl
after_stm (Open at j d) Opened rest = refl
after_stm (Open at j d) Failed rest = refl
after_stm (Open at j d) _ rest = refl
after_stm (Close at j d) On rest = refl
after_stm (Close at j d) _ rest = refl
after_stm (Call at j callee) On rest = refl
after_stm (Call at j callee) _ rest = refl
after_stm (Group ss) On rest = refl
after_stm (Group ss) _ rest = refl
after_stm (Label at mark j l s) On rest = refl
after_stm (Label at mark j l s) _ rest = refl
after_stm (If at s t) Left rest = refl
after_stm (If at s t) Right rest = refl
after_stm (If at s t) _ rest = refl
after_stm (While at s) On rest = refl
after_stm (While at s) _ rest = refl
after_stm (Do at s) On rest = refl
after_stm (Do at s) _ rest = refl
after_stm (For at init decided stepped s) On rest = refl
after_stm (For at init decided stepped s) _ rest = refl

after_test : (at : ℕ) (decided stepped : Bool) (s : Stm) (way : Way) (rest : Frame) → IsWholeAfter (Test at decided stepped s) way rest
after_test at true true s Left rest = refl
after_test at true false s Left rest = refl
after_test at true stepped s Right rest = refl
after_test at true stepped s _ rest = refl
after_test at false true s On rest = refl
after_test at false false s On rest = refl
after_test at false stepped s _ rest = refl

after_whole : (i : Item) (way : Way) (rest : Frame) → IsWholeAfter i way rest
after_whole (Entry f j) On rest = refl
after_whole (Entry f j) _ rest = refl
after_whole (Todo s) way rest = after_stm s way rest
after_whole (Test at decided stepped s) way rest = after_test at decided stepped s way rest
after_whole (After at) On rest = refl
after_whole (After at) _ rest = refl
after_whole LoopEnd On rest = refl
after_whole LoopEnd _ rest = refl
after_whole (End f) On rest = refl
after_whole (End f) _ rest = refl

frame_whole : (plan : Plan) (f : ℕ) → option_map whole_frame (frame_of plan f) ≡ frame_of (whole_plan plan) f
frame_whole plan f = by (slice_get plan.routines f) ∙ ap (option_map (new_frame f)) (sym (slice_get-map whole_routine plan.routines f))
  where
    by : (o : Option Routine) → option_map whole_frame (option_map (new_frame f) o) ≡ option_map (new_frame f) (option_map whole_routine o)
    by None = refl
    by (Some r) = ap (λ (frame : Frame). Some (Entry f r.seam ∷ frame)) (items_whole r.body (End f ∷ []))

pushed_whole : (plan : Plan) (callee : Callee) (stack : List Frame) → option_map whole_stack (pushed plan callee stack) ≡ pushed (whole_plan plan) (whole_callee callee) (whole_stack stack)
pushed_whole plan callee stack = by (frame_of plan callee.number) ∙ ap (option_map (λ (frame : Frame). frame ∷ whole_stack stack)) (frame_whole plan callee.number)
  where
    by : (o : Option Frame) → option_map whole_stack (option_map (λ (frame : Frame). frame ∷ stack) o) ≡ option_map (λ (frame : Frame). frame ∷ whole_stack stack) (option_map whole_frame o)
    by None = refl
    by (Some frame) = refl

popped_whole : (frames : List Frame) → option_map whole_stack (popped frames) ≡ popped (whole_stack frames)
popped_whole [] = refl
popped_whole ([] ∷ frames) = refl
popped_whole ((call ∷ rest) ∷ frames) = ap (λ (frame : Frame). Some (frame ∷ whole_stack frames)) (settle_whole rest)

on_whole : (i : Item) (way : Way) (rest : Frame) (frames : List Frame) → option_map whole_stack (option_map (λ (next : Frame). settle next ∷ frames) (after i way rest))
    ≡ option_map (λ (next : Frame). settle next ∷ whole_stack frames) (after (whole_item i) way (whole_frame rest))
on_whole i way rest frames = by (after i way rest) ∙ ap (option_map (λ (next : Frame). settle next ∷ whole_stack frames)) (after_whole i way rest)
  where
    by : (o : Option Frame) → option_map whole_stack (option_map (λ (next : Frame). settle next ∷ frames) o)
        ≡ option_map (λ (next : Frame). settle next ∷ whole_stack frames) (option_map whole_frame o)
    by None = refl
    by (Some next) = ap (λ (frame : Frame). Some (frame ∷ whole_stack frames)) (settle_whole next)

pass_stm : (plan : Plan) (s : Stm) (is : Frame) (frames : List Frame) (way : Way)
    → option_map whole_stack (pass plan ((Todo s ∷ is) ∷ frames) way) ≡ pass (whole_plan plan) (whole_stack ((Todo s ∷ is) ∷ frames)) way
pass_stm plan (Call at j callee) is frames On = pushed_whole plan callee ((Todo (Call at j callee) ∷ is) ∷ frames)
pass_stm plan (Call at j callee) is frames _ = refl
pass_stm plan (Plain at) is frames way = on_whole (Todo (Plain at)) way is frames
pass_stm plan (Break at) is frames way = on_whole (Todo (Break at)) way is frames
pass_stm plan (Continue at) is frames way = on_whole (Todo (Continue at)) way is frames
pass_stm plan (Return at) is frames way = on_whole (Todo (Return at)) way is frames
pass_stm plan (Open at j d) is frames way = on_whole (Todo (Open at j d)) way is frames
pass_stm plan (Close at j d) is frames way = on_whole (Todo (Close at j d)) way is frames
pass_stm plan (Group ss) is frames way = on_whole (Todo (Group ss)) way is frames
pass_stm plan (Label at mark j l s) is frames way = on_whole (Todo (Label at mark j l s)) way is frames
pass_stm plan (If at s t) is frames way = on_whole (Todo (If at s t)) way is frames
pass_stm plan (While at s) is frames way = on_whole (Todo (While at s)) way is frames
pass_stm plan (Do at s) is frames way = on_whole (Todo (Do at s)) way is frames
pass_stm plan (For at init decided stepped s) is frames way = on_whole (Todo (For at init decided stepped s)) way is frames

-- The lemma on steps.
pub pass_whole : (plan : Plan) (stack : List Frame) (way : Way) → option_map whole_stack (pass plan stack way) ≡ pass (whole_plan plan) (whole_stack stack) way
pass_whole plan [] way = refl
pass_whole plan ([] ∷ frames) way = refl
pass_whole plan ((Todo s ∷ is) ∷ frames) way = pass_stm plan s is frames way
pass_whole plan ((End f ∷ is) ∷ frames) On = popped_whole frames
pass_whole plan ((End f ∷ is) ∷ frames) _ = refl
pass_whole plan ((Entry f j ∷ is) ∷ frames) way = on_whole (Entry f j) way is frames
pass_whole plan ((Test at decided stepped s ∷ is) ∷ frames) way = on_whole (Test at decided stepped s) way is frames
pass_whole plan ((After at ∷ is) ∷ frames) way = on_whole (After at) way is frames
pass_whole plan ((LoopEnd ∷ is) ∷ frames) way = on_whole LoopEnd way is frames

pub start_whole : (plan : Plan) → whole_stack (start_stack plan) ≡ start_stack (whole_plan plan)
start_whole plan = by (frame_of plan plan.main) ∙ ap stack_of (frame_whole plan plan.main)
  where
    by : (o : Option Frame) → whole_stack (stack_of o) ≡ stack_of (option_map whole_frame o)
    by None = refl
    by (Some frame) = refl
