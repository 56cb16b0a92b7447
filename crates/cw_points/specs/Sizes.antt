-- Working definitions: how many points a statement of a source has. What its expressions do doesn't matter: each is one point.
use Rattle.std.specs.Prelude.{ℕ, suc, ◌+◌, List, [], ◌∷◌, min, is_some}
use Rattle.cw_syntax.specs.Trees.{Statement, Stated, Form, Block, Declares, Evaluates, Empties, Labels, Chooses, Whiles, Does, Fors, Breaks, Continues, Returns}
use Rattle.cw_syntax.specs.Trees.{Perhaps, nothing, just, Statements, nil, cons, Definition}
use Rattle.cw_syntax.specs.Plans.{place_if}
use Rattle.cw_points.specs.Points.{one_if, one_if_some}

abbrev mutual
  pub size : Statement → ℕ
  size (Stated form from to) = size_of form

  pub size_of : Form → ℕ
  size_of (Block ss) = size_all ss
  size_of (Labels name mark s) = suc (size s)
  size_of (Chooses test s other) = suc (size s + size_arm other)
  size_of (Whiles test s) = suc (size s)
  size_of (Does s test) = suc (size s)
  size_of (Fors init test step s) = one_if_some (place_if init) + suc (one_if (is_some step) + size s)
  size_of (Declares d) = 1
  size_of (Evaluates e) = 1
  size_of Empties = 1
  size_of Breaks = 1
  size_of Continues = 1
  size_of (Returns value) = 1

  pub size_arm : Perhaps → ℕ
  size_arm nothing = 0
  size_arm (just s) = size s

  pub size_all : Statements → ℕ
  size_all nil = 0
  size_all (cons s ss) = size s + size_all ss

abbrev pub size_from : List Definition → ℕ
size_from [] = 0
size_from (f ∷ fs) = suc (suc (size_all f.body)) + size_from fs

-- a count that goes up to one more than the most points that a program may have
abbrev pub capped : ℕ → ℕ
capped n = min n 8193
