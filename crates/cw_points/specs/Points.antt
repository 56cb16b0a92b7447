-- The points of a program: its items in the order of the text. Blocks have none. A function has its entry, what its statements have, and
-- its end; a `do` has its test behind its body, a `for` its init, its test and its step before its body.
-- Public source: ISO/IEC 9899:2011, sections 6.8 and 6.9.1.
use Rattle.std.specs.Prelude.{ℕ, suc, ◌+◌, List, [], ◌∷◌, ◌++◌, Bool, true, false, Option, Some, None}
use Rattle.cw_syntax.specs.Plans.{Stm, Plain, Break, Continue, Return, Open, Close, Call, Group, Label, If, While, Do, For, Stms, end, then, Routine, Plan}
use Rattle.cw_syntax.specs.Frames.{Item, Entry, Todo, Test, End, init_if, after_if}

abbrev mutual
  pub points_in : Stm → List Item
  points_in (Plain at) = Todo (Plain at) ∷ []
  points_in (Break at) = Todo (Break at) ∷ []
  points_in (Continue at) = Todo (Continue at) ∷ []
  points_in (Return at) = Todo (Return at) ∷ []
  points_in (Open at j d) = Todo (Open at j d) ∷ []
  points_in (Close at j d) = Todo (Close at j d) ∷ []
  points_in (Call at j callee) = Todo (Call at j callee) ∷ []
  points_in (Group ss) = points_in_all ss
  points_in (Label at mark j l s) = Todo (Label at mark j l s) ∷ points_in s
  points_in (If at s t) = Todo (If at s t) ∷ (points_in s ++ points_in t)
  points_in (While at s) = Test at true false s ∷ points_in s
  points_in (Do at s) = points_in s ++ Test at true false s ∷ []
  points_in (For at init decided stepped s) = init_if init (Test at decided stepped s ∷ after_if stepped at (points_in s))

  pub points_in_all : Stms → List Item
  points_in_all end = []
  points_in_all (then s ss) = points_in s ++ points_in_all ss

abbrev pub points_of : ℕ → Routine → List Item
points_of f r = Entry f r.seam ∷ (points_in_all r.body ++ End f ∷ [])

-- the functions from this number on
abbrev pub points_from : ℕ → List Routine → List Item
points_from f [] = []
points_from f (r ∷ rs) = points_of f r ++ points_from (f + 1) rs

-- The points of a program, by number.
abbrev pub points : Plan → List Item
points plan = points_from 0 plan.routines

-- How many a statement has.
abbrev pub one_if : Bool → ℕ
one_if true = 1
one_if false = 0

abbrev pub one_if_some : Option ℕ → ℕ
one_if_some None = 0
one_if_some (Some at) = 1

abbrev mutual
  pub count : Stm → ℕ
  count (Group ss) = count_all ss
  count (Label at mark j l s) = suc (count s)
  count (If at s t) = suc (count s + count t)
  count (While at s) = suc (count s)
  count (Do at s) = suc (count s)
  count (For at init decided stepped s) = one_if_some init + suc (one_if stepped + count s)
  count _ = 1

  pub count_all : Stms → ℕ
  count_all end = 0
  count_all (then s ss) = count s + count_all ss

-- and a program: an entry and an exit more for each function
abbrev pub count_from : List Routine → ℕ
count_from [] = 0
count_from (r ∷ rs) = suc (suc (count_all r.body)) + count_from rs

abbrev pub point_count : Plan → ℕ
point_count plan = count_from plan.routines
