-- A program as its steps see it: what each statement does, and the numbers of the seams.
use Rattle.std.specs.Prelude.{ℕ, zero, suc, ◌+◌, List, [], ◌∷◌, ◌++◌, Bool, true, false, cond, Option, Some, None, map, is_some}
use Rattle.std.specs.Str.{bytes_eq}
use Rattle.std.specs.Prelude.{codes}
use Rattle.std.specs.Fmt.{decimal}
use Rattle.cw_syntax.specs.declared.program.Name.{Name}
use Rattle.cw_syntax.specs.declared.program.Op.TheVariants.{Name as NameOp, Number, Call as CallOp, Assign}
use Rattle.cw_syntax.specs.Names.{slice, text, number_in, number_or_other, Names}
use Rattle.cw_syntax.specs.Trees.{Tree, Node, Trees, none, more, Statement, Stated, Form, Block, Declares, Evaluates, Empties, Labels, Chooses, Whiles, Does, Fors, Breaks, Continues, Returns, Perhaps, nothing, just, Statements, nil, cons, Definition, File}

-- The call of a defined function: the function's number, whether the policy lets it run in a process of its own, and the variable that takes the result.
pub record Callee : Type 0 where
  pub number : ℕ
  pub split : Bool
  pub result : Option Name

-- What a statement does that is an expression. A descriptor has its number in the policy.
pub data Action : Type 0 where
  Computes : Action
  Opens : (descriptor : ℕ) → Action
  Closes : (descriptor : ℕ) → Action
  Invokes : Callee → Action

-- A source with the names of its functions and of its policy.
pub record Scene : Type 0 where
  pub source : List ℕ
  pub functions : List (List ℕ)
  pub names : Names

abbrev pub callee_of : Scene → ℕ → List ℕ → Option Name → Callee
callee_of s number name result = record { number = number; split = is_some (number_in s.names.splits name); result = result }

abbrev pub opens_if : Option ℕ → Action
opens_if None = Computes
opens_if (Some d) = Opens d

abbrev pub closes_if : Option ℕ → Action
closes_if None = Computes
closes_if (Some d) = Closes d

-- the descriptor that an expression names: a variable by its name, a number by its value
abbrev pub descriptor_of : Scene → Tree → Option ℕ
descriptor_of s (Node NameOp parts from to) = number_in s.names.descriptors (slice s.source from to)
descriptor_of s (Node (Number n) parts from to) = number_in s.names.descriptors (decimal n)
descriptor_of s _ = None

-- `close(d);`, with `close` external
abbrev pub closed_by : Scene → List ℕ → Trees → Action
closed_by s name (more argument none) = cond (bytes_eq name (codes "close")) (closes_if (descriptor_of s argument)) Computes
closed_by s name _ = Computes

-- `f(..);`
abbrev pub call_action : Scene → List ℕ → Trees → Option ℕ → Action
call_action s name arguments (Some f) = Invokes (callee_of s f name None)
call_action s name arguments None = closed_by s name arguments

-- `x = f(..);`: of a defined function a call whose result is taken, of an external one an open of the descriptor variable x
abbrev pub assigned_action : Scene → Name → List ℕ → Option ℕ → Action
assigned_action s x name (Some f) = Invokes (callee_of s f name (Some x))
assigned_action s x name None = opens_if (number_in s.names.descriptors (text s.source x))

abbrev pub action_of : Scene → Tree → Action
action_of s (Node (CallOp f) arguments from to) = call_action s (text s.source f) arguments (number_in s.functions (text s.source f))
action_of s (Node (Assign zero) (more (Node NameOp parts at end) (more (Node (CallOp f) arguments at' end') none)) from to) =
    assigned_action s (record { from = at; to = end }) (text s.source f) (number_in s.functions (text s.source f))
action_of s _ = Computes

-- A statement with its place, by its steps. A label, an open, a close and a call have the number of their seam; a label has also
-- the place of its mark and the number of its name in the policy.
mutual
  pub data Stm : Type 0 where
    -- a declaration, an expression, an empty statement, the init of a `for`
    Plain : (at : ℕ) → Stm
    Break : (at : ℕ) → Stm
    Continue : (at : ℕ) → Stm
    Return : (at : ℕ) → Stm
    Open : (at seam descriptor : ℕ) → Stm
    Close : (at seam descriptor : ℕ) → Stm
    Call : (at seam : ℕ) → Callee → Stm
    Group : Stms → Stm
    Label : (at mark seam letter : ℕ) → Stm → Stm
    -- without a second arm that arm is a block of no statements
    If : (at : ℕ) → Stm → Stm → Stm
    While : (at : ℕ) → Stm → Stm
    Do : (at : ℕ) → Stm → Stm
    -- the place of its init, whether it has a condition, whether it has a step
    For : (at : ℕ) → (init : Option ℕ) → (decided stepped : Bool) → Stm → Stm

  -- Statements one after the other.
  pub data Stms : Type 0 where
    end : Stms
    then : Stm → Stms → Stms

-- the statement of an expression that does this, its seam not yet numbered
abbrev pub acting : Action → ℕ → Stm
acting Computes at = Plain at
acting (Opens d) at = Open at 0 d
acting (Closes d) at = Close at 0 d
acting (Invokes callee) at = Call at 0 callee

-- where a statement begins, if there is one
abbrev pub place_if : Perhaps → Option ℕ
place_if nothing = None
place_if (just (Stated form from to)) = Some from

-- the statements, their seams not yet numbered
abbrev mutual
  pub steps_of : Scene → Statement → Stm
  steps_of s (Stated form from to) = steps_of_form s from form

  pub steps_of_form : Scene → ℕ → Form → Stm
  steps_of_form s at (Block ss) = Group (steps_of_all s ss)
  steps_of_form s at (Declares d) = Plain at
  steps_of_form s at (Evaluates e) = acting (action_of s e) at
  steps_of_form s at Empties = Plain at
  steps_of_form s at (Labels name mark body) = Label at mark 0 (number_or_other s.names.labels (text s.source name)) (steps_of s body)
  steps_of_form s at (Chooses test arm other) = If at (steps_of s arm) (steps_of_arm s other)
  steps_of_form s at (Whiles test body) = While at (steps_of s body)
  steps_of_form s at (Does body test) = Do at (steps_of s body)
  steps_of_form s at (Fors init test step body) = For at (place_if init) (is_some test) (is_some step) (steps_of s body)
  steps_of_form s at Breaks = Break at
  steps_of_form s at Continues = Continue at
  steps_of_form s at (Returns value) = Return at

  pub steps_of_arm : Scene → Perhaps → Stm
  steps_of_arm s nothing = Group end
  steps_of_arm s (just arm) = steps_of s arm

  pub steps_of_all : Scene → Statements → Stms
  steps_of_all s nil = end
  steps_of_all s (cons one rest) = then (steps_of s one) (steps_of_all s rest)

-- how many seams a statement has
abbrev mutual
  pub seams : Stm → ℕ
  seams (Plain at) = 0
  seams (Break at) = 0
  seams (Continue at) = 0
  seams (Return at) = 0
  seams (Open at j d) = 1
  seams (Close at j d) = 1
  seams (Call at j callee) = 1
  seams (Group ss) = seams_all ss
  seams (Label at mark j l s) = seams s + 1
  seams (If at s t) = seams s + seams t
  seams (While at s) = seams s
  seams (Do at s) = seams s
  seams (For at init decided stepped s) = seams s

  pub seams_all : Stms → ℕ
  seams_all end = 0
  seams_all (then s ss) = seams s + seams_all ss

-- the statements with their seams numbered from j on, in the order of the text
abbrev mutual
  pub numbered : Stm → ℕ → Stm
  numbered (Plain at) j = Plain at
  numbered (Break at) j = Break at
  numbered (Continue at) j = Continue at
  numbered (Return at) j = Return at
  numbered (Open at i d) j = Open at j d
  numbered (Close at i d) j = Close at j d
  numbered (Call at i callee) j = Call at j callee
  numbered (Group ss) j = Group (numbered_all ss j)
  numbered (Label at mark i l s) j = Label at mark j l (numbered s (j + 1))
  numbered (If at s t) j = If at (numbered s j) (numbered t (j + seams s))
  numbered (While at s) j = While at (numbered s j)
  numbered (Do at s) j = Do at (numbered s j)
  numbered (For at init decided stepped s) j = For at init decided stepped (numbered s j)

  pub numbered_all : Stms → ℕ → Stms
  numbered_all end j = end
  numbered_all (then s ss) j = then (numbered s j) (numbered_all ss (j + seams s))

-- A function: the place of its first mark, the number of its entry's seam, its body.
pub record Routine : Type 0 where
  pub mark : ℕ
  pub seam : ℕ
  pub body : Stms

-- A program: its functions in the order of definition, and the number of `main` among them.
pub record Plan : Type 0 where
  pub routines : List Routine
  pub main : ℕ

-- each function has the seam of its entry, then those of its statements
abbrev pub routines_from : Scene → ℕ → List Definition → List Routine
routines_from s j [] = []
routines_from s j (f ∷ fs) =
    record { mark = f.brace; seam = j; body = numbered_all (steps_of_all s f.body) (j + 1) }
    ∷ routines_from s (j + 1 + seams_all (steps_of_all s f.body)) fs

abbrev pub function_names : List ℕ → File → List (List ℕ)
function_names source file = map (λ f. text source f.name) file.functions

abbrev pub scene_of : Names → List ℕ → File → Scene
scene_of names source file = record { source = source; functions = function_names source file; names = names }

-- the plan of a source's program under a policy's names
abbrev pub plan_of : Names → List ℕ → File → Plan
plan_of names source file = record { routines = routines_from (scene_of names source file) 0 file.functions; main = number_or_other (function_names source file) (codes "main") }
