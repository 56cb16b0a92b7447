-- The labels of a source's program, in the order of the text. Public source: ISO/IEC 9899:2011, section 6.8.1.
use Rattle.std.specs.Prelude.{ℕ, List, [], ◌∷◌, ◌++◌, map}
use Rattle.std.specs.List.{flat_map}
use Rattle.cw_syntax.specs.Names.{text}
use Rattle.cw_syntax.specs.Trees.{Statement, Stated, Form, Block, Labels, Chooses, Whiles, Does, Fors, Perhaps, nothing, just, Statements, nil, cons, File}
use Rattle.cw_resolve.specs.declared.labelled.Labelled.{Labelled}

-- The labels of a statement. The init of a `for` is a declaration or an expression, and has none.
abbrev mutual
  pub labels_of : Statement → List Labelled
  labels_of (Stated form from to) = labels_in form

  pub labels_in : Form → List Labelled
  labels_in (Block ss) = labels_of_all ss
  labels_in (Labels name mark s) = record { name = name; mark = mark } ∷ labels_of s
  labels_in (Chooses test s other) = labels_of s ++ labels_of_arm other
  labels_in (Whiles test s) = labels_of s
  labels_in (Does s test) = labels_of s
  labels_in (Fors init test step s) = labels_of s
  labels_in _ = []

  pub labels_of_arm : Perhaps → List Labelled
  labels_of_arm nothing = []
  labels_of_arm (just s) = labels_of s

  pub labels_of_all : Statements → List Labelled
  labels_of_all nil = []
  labels_of_all (cons s ss) = labels_of s ++ labels_of_all ss

abbrev pub labels_in_file : File → List Labelled
labels_in_file file = flat_map (λ f. labels_of_all f.body) file.functions

-- their names, a name that stands in several functions as often as it stands
abbrev pub label_names : List ℕ → File → List (List ℕ)
label_names source file = map (λ l. text source l.name) (labels_in_file file)
