-- Working definitions: which points of a statement stand at these places, an `if` or the test of a loop. What its expressions do doesn't matter.
use Rattle.std.specs.Prelude.{ℕ, List, [], ◌∷◌, ◌++◌, Bool, true, false, cond, is_some}
use Rattle.cw_syntax.specs.Trees.{Statement, Stated, Form, Block, Declares, Evaluates, Empties, Labels, Chooses, Whiles, Does, Fors, Breaks, Continues, Returns}
use Rattle.cw_syntax.specs.Trees.{Perhaps, nothing, just, Statements, nil, cons, Definition}
use Rattle.cw_worlds.specs.Forks.{is_place}

abbrev pub one_if : Bool → List Bool
one_if true = false ∷ []
one_if false = []

abbrev pub is_given : Perhaps → Bool
is_given nothing = false
is_given (just s) = true

-- the init, the test and the step of a `for`
abbrev pub head_flags : (here begun decided stepped : Bool) → List Bool
head_flags here begun decided stepped = one_if begun ++ cond decided here false ∷ one_if stepped

abbrev mutual
  pub flags : List ℕ → Statement → List Bool
  flags forks (Stated form from to) = flags_in forks from form

  pub flags_in : List ℕ → ℕ → Form → List Bool
  flags_in forks at (Block ss) = flags_all forks ss
  flags_in forks at (Labels name mark s) = false ∷ flags forks s
  flags_in forks at (Chooses test s other) = is_place forks at ∷ (flags forks s ++ flags_arm forks other)
  flags_in forks at (Whiles test s) = is_place forks at ∷ flags forks s
  flags_in forks at (Does s test) = flags forks s ++ is_place forks at ∷ []
  flags_in forks at (Fors init test step s) = head_flags (is_place forks at) (is_given init) (is_some test) (is_some step) ++ flags forks s
  flags_in forks at (Declares d) = false ∷ []
  flags_in forks at (Evaluates e) = false ∷ []
  flags_in forks at Empties = false ∷ []
  flags_in forks at Breaks = false ∷ []
  flags_in forks at Continues = false ∷ []
  flags_in forks at (Returns value) = false ∷ []

  pub flags_arm : List ℕ → Perhaps → List Bool
  flags_arm forks nothing = []
  flags_arm forks (just s) = flags forks s

  pub flags_all : List ℕ → Statements → List Bool
  flags_all forks nil = []
  flags_all forks (cons s ss) = flags forks s ++ flags_all forks ss

-- a function has its entry and its end too
abbrev pub routine_flags : List ℕ → Definition → List Bool
routine_flags forks f = false ∷ (flags_all forks f.body ++ false ∷ [])

abbrev pub file_flags : List ℕ → List Definition → List Bool
file_flags forks [] = []
file_flags forks (f ∷ fs) = routine_flags forks f ++ file_flags forks fs
