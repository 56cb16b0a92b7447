-- What each function calls directly, and all that it reaches.
use Rattle.std.specs.Prelude.{◌≡◌, ◌==◌, ℕ, List, [], ◌∷◌, ◌++◌, not, Option, None, Some, slice_get}
use Rattle.std.specs.List.{Contains, filter}
use Rattle.cw_syntax.specs.Plans.{Stm, Plain, Break, Continue, Return, Open, Close, Call, Group, Label, If, While, Do, For, Stms, end, then, Routine, Plan}

-- the numbers of the functions that a statement calls, in the order of the text
abbrev mutual
  pub callees : Stm → List ℕ
  callees (Plain at) = []
  callees (Break at) = []
  callees (Continue at) = []
  callees (Return at) = []
  callees (Open at j d) = []
  callees (Close at j d) = []
  callees (Call at j callee) = callee.number ∷ []
  callees (Group ss) = callees_all ss
  callees (Label at flag j l s) = callees s
  callees (If at s t) = callees s ++ callees t
  callees (While at s) = callees s
  callees (Do at s) = callees s
  callees (For at init decided stepped s) = callees s

  pub callees_all : Stms → List ℕ
  callees_all end = []
  callees_all (then s ss) = callees s ++ callees_all ss

-- each number once, in the order of first occurrences
abbrev pub firsts : List ℕ → List ℕ
firsts [] = []
firsts (f ∷ fs) = f ∷ filter (λ g. not (f == g)) (firsts fs)

abbrev pub calls_of : Option Routine → List ℕ
calls_of None = []
calls_of (Some routine) = firsts (callees_all routine.body)

-- What the function with this number calls: each function once, in the order of its first call in the text.
abbrev pub calls : Plan → ℕ → List ℕ
calls plan f = calls_of (slice_get plan.routines f)

-- A function reaches what it calls, and what is called by a function that it reaches.
pub data Reaches (plan : Plan) (f : ℕ) : ℕ → Type 0 where
  directly : (g : ℕ) → Contains (calls plan f) g → Reaches plan f g
  further : (h g : ℕ) → Reaches plan f h → Contains (calls plan h) g → Reaches plan f g

-- this holds of each entry of a table and its number
abbrev pub Each : {A : Type 0} → (ℕ → A → Type 0) → List A → Type 0
Each {A} P table = (f : ℕ) (entry : A) → slice_get table f ≡ Some entry → P f entry
