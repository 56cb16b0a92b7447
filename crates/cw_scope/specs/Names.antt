-- The names that stand in a file, each with its place. Public source: ISO/IEC 9899:2011, sections 6.2.1, 6.4.2, 6.5.1, 6.7 and 6.8.1.
use Rattle.std.specs.Prelude.{List, [], ◌∷◌, ◌++◌, map, Option, Some, None}
use Rattle.std.specs.List.{flat_map, filter_map}
use Rattle.cw_syntax.specs.declared.program.Name.{Name}
use Rattle.cw_syntax.specs.declared.program.Op.TheVariants.{Name as NameOp, Call as CallOp}
use Rattle.cw_syntax.specs.declared.program.Param.{Param}
use Rattle.cw_syntax.specs.Trees.{Tree, Node, Declaration, Statement, Stated, Form, Declares, Labels, Fors, Perhaps, nothing, just, File}
use Rattle.cw_scope.specs.Walks.{Nested, every_statement, every_node}

-- the names that a declaration gives
abbrev pub declared_names : Declaration → List Name
declared_names d = map (λ i. i.name) d.items

-- those of parameters; in a prototype a parameter may have none
abbrev pub param_names : List Param → List Name
param_names params = filter_map (λ p. p.name) params

-- those that a statement declares itself, a `for` in its init
abbrev pub names_in : Form → List Name
names_in (Declares d) = declared_names d
names_in _ = []

abbrev pub init_names : Perhaps → List Name
init_names nothing = []
init_names (just (Stated form from to)) = names_in form

abbrev pub local_names_in : Form → List Name
local_names_in (Fors init test step s) = init_names init
local_names_in form = names_in form

abbrev pub local_names : Statement → List Name
local_names (Stated form from to) = local_names_in form

-- the variables at file scope; the parameters and variables of functions and prototypes
abbrev pub globals : File → List Name
globals file = flat_map declared_names file.globals

abbrev pub locals : File → List Name
locals file = flat_map (λ p. param_names p.params) file.protos ++ flat_map (λ f. param_names f.params) file.functions ++ flat_map (λ p. local_names p.statement) (every_statement file)

-- labels
abbrev pub label_in : Form → List Name
label_in (Labels name mark s) = name ∷ []
label_in _ = []

abbrev pub label_of : Statement → List Name
label_of (Stated form from to) = label_in form

abbrev pub labels_of : List Nested → List Name
labels_of ps = flat_map (λ p. label_of p.statement) ps

abbrev pub every_label : File → List Name
every_label file = labels_of (every_statement file)

-- the name that an expression is, and the one that it calls
abbrev pub plain_name : Tree → Option Name
plain_name (Node NameOp parts from to) = Some (record { from = from; to = to })
plain_name _ = None

abbrev pub called_name : Tree → Option Name
called_name (Node (CallOp f) arguments from to) = Some f
called_name _ = None

-- names of variables, parameters and labels, where they are declared and where they stand in expressions
abbrev pub uses : File → List Name
uses file = globals file ++ locals file ++ every_label file ++ filter_map plain_name (every_node file)

-- names of functions, where they are declared and defined
abbrev pub function_places : File → List Name
function_places file = map (λ p. p.name) file.protos ++ map (λ f. f.name) file.functions

-- all names of a file
abbrev pub every_name : File → List Name
every_name file = uses file ++ function_places file ++ filter_map called_name (every_node file)
