-- What stands in a file, as whole lists: its statements, its expressions. Public source: ISO/IEC 9899:2011, sections 6.5, 6.7, 6.8
-- and 6.9.
use Rattle.std.specs.Prelude.{List, [], ◌∷◌, ◌++◌, map, Bool, true, false, Option, Some, None}
use Rattle.std.specs.List.{flat_map}
use Rattle.cw_syntax.specs.Trees.{Tree, Node, Trees, none, more, Declared, Declaration, Definition, File}
use Rattle.cw_syntax.specs.Trees.{Statement, Stated, Form, Block, Declares, Evaluates, Labels, Chooses, Whiles, Does, Fors, Returns, Perhaps, nothing, just, Statements, nil, cons}

-- An expression and all that are in it, each before its parts, these from left to right.
abbrev mutual
  pub nodes : Tree → List Tree
  nodes (Node op parts from to) = Node op parts from to ∷ nodes_in parts

  pub nodes_in : Trees → List Tree
  nodes_in none = []
  nodes_in (more t ts) = nodes t ++ nodes_in ts

-- A statement, and whether it stands in a loop.
pub record Nested : Type 0 where
  pub statement : Statement
  pub looped : Bool

-- A statement and all that are in it, each before those in it, from left to right. The init of a `for` isn't among them.
abbrev mutual
  pub nested : Bool → Statement → List Nested
  nested looped (Stated form from to) = record { statement = Stated form from to; looped = looped } ∷ nested_within looped form

  pub nested_within : Bool → Form → List Nested
  nested_within looped (Block ss) = nested_all looped ss
  nested_within looped (Labels name mark s) = nested looped s
  nested_within looped (Chooses test s other) = nested looped s ++ nested_arm looped other
  nested_within looped (Whiles test s) = nested true s
  nested_within looped (Does s test) = nested true s
  nested_within looped (Fors init test step s) = nested true s
  nested_within looped _ = []

  pub nested_arm : Bool → Perhaps → List Nested
  nested_arm looped nothing = []
  nested_arm looped (just s) = nested looped s

  pub nested_all : Bool → Statements → List Nested
  nested_all looped nil = []
  nested_all looped (cons s ss) = nested looped s ++ nested_all looped ss

-- those of a function, and of a file
abbrev pub body_of : Definition → List Nested
body_of f = nested_all false f.body

abbrev pub every_statement : File → List Nested
every_statement file = flat_map body_of file.functions

abbrev pub given : Option Tree → List Tree
given None = []
given (Some t) = t ∷ []

abbrev pub listed : Trees → List Tree
listed none = []
listed (more t ts) = t ∷ listed ts

-- the size of an array, where one is written
abbrev pub size_of : Option (Option Tree) → List Tree
size_of None = []
size_of (Some size) = given size

-- the expressions of a declaration: sizes and initialisers, each of which stands by itself
abbrev pub item_trees : Declared → List Tree
item_trees i = size_of i.array ++ listed i.init

abbrev pub declaration_trees : Declaration → List Tree
declaration_trees d = flat_map item_trees d.items

-- the init of a `for` is a declaration or an expression
abbrev pub init_trees_in : Form → List Tree
init_trees_in (Declares d) = declaration_trees d
init_trees_in (Evaluates e) = e ∷ []
init_trees_in _ = []

abbrev pub init_trees : Perhaps → List Tree
init_trees nothing = []
init_trees (just (Stated form from to)) = init_trees_in form

-- A whole expression, which is no part of another one, and whether it is the whole of a statement `e;`.
pub record Whole : Type 0 where
  pub tree : Tree
  pub stands : Bool

abbrev pub inner : Tree → Whole
inner t = record { tree = t; stands = false }

-- those of a statement, without the statements in it
abbrev pub wholes_in : Form → List Whole
wholes_in (Declares d) = map inner (declaration_trees d)
wholes_in (Evaluates e) = record { tree = e; stands = true } ∷ []
wholes_in (Chooses test s other) = inner test ∷ []
wholes_in (Whiles test s) = inner test ∷ []
wholes_in (Does s test) = inner test ∷ []
wholes_in (Fors init test step s) = map inner (init_trees init ++ given test ++ given step)
wholes_in (Returns value) = map inner (given value)
wholes_in _ = []

abbrev pub wholes_of : Statement → List Whole
wholes_of (Stated form from to) = wholes_in form

-- those of a file: of the declarations at file scope, and of all statements
abbrev pub every_whole : File → List Whole
every_whole file = map inner (flat_map declaration_trees file.globals) ++ flat_map (λ p. wholes_of p.statement) (every_statement file)

-- all expressions of a file
abbrev pub every_node : File → List Tree
every_node file = flat_map (λ w. nodes w.tree) (every_whole file)
