-- The program data as plain trees: what was read, without where it lies in memory. The grammar, the scope rules
-- and the steps of a program speak of these. Public source: ISO/IEC 9899:2011, sections 6.5, 6.7, 6.8 and 6.9.
use Rattle.std.specs.Prelude.{ℕ, List, [], ◌∷◌, Bool, Option, None, Some, option_map, map, ◌+◌}
use Rattle.cw_syntax.specs.declared.program.Name.{Name}
use Rattle.cw_syntax.specs.declared.program.CType.{CType}
use Rattle.cw_syntax.specs.declared.program.Op.{Op}
use Rattle.cw_syntax.specs.declared.program.Expr.{Expr, Expr', Row_of-Expr, end_of-Expr, more_of-Expr}
use Rattle.cw_syntax.specs.declared.program.Item.{Item}
use Rattle.cw_syntax.specs.declared.program.Decl.{Decl}
use Rattle.cw_syntax.specs.declared.program.What.{What, Decl as DeclWhat, Expr as ExprWhat, Empty, Break, Continue, Return, Block', Label', If', While', Do', For', Row_of-Stmt, end_of-Stmt, more_of-Stmt, Held-What-If-2, What-If-2-None', What-If-2-Some'}
use Rattle.cw_syntax.specs.declared.program.Head.{Head, Head', Held-Head-init, Head-init-None', Head-init-Some'}
use Rattle.cw_syntax.specs.declared.program.Stmt.{Stmt}
use Rattle.cw_syntax.specs.declared.program.Param.{Param}
use Rattle.cw_syntax.specs.declared.program.Proto.{Proto}
use Rattle.cw_syntax.specs.declared.program.Function.{Function}
use Rattle.cw_syntax.specs.declared.program.Program.{Program}

-- An expression: its operator, its parts from left to right, and its span.
mutual
  pub data Tree : Type 0 where
    Node : Op → Trees → (from to : ℕ) → Tree

  -- Expressions one after the other.
  pub data Trees : Type 0 where
    none : Trees
    more : Tree → Trees → Trees

abbrev pub op_of : Tree → Op
op_of (Node op parts from to) = op

abbrev pub parts_of : Tree → Trees
parts_of (Node op parts from to) = parts

abbrev pub count : Trees → ℕ
count none = 0
count (more t ts) = count ts + 1

-- A declared name: its type, its array's brackets and size, its initialisers.
pub record Declared : Type 0 where
  pub kind : CType
  pub name : Name
  pub array : Option (Option Tree)
  pub init : Trees
  pub braces : Bool

-- A declaration with its span: whether `extern`, `static` (`fixed`) and `const` stand before it, and its names.
pub record Declaration : Type 0 where
  pub external : Bool
  pub fixed : Bool
  pub constant : Bool
  pub items : List Declared
  pub from : ℕ
  pub to : ℕ

-- A statement with its span, by its form.
mutual
  pub data Statement : Type 0 where
    Stated : Form → (from to : ℕ) → Statement

  -- What a statement is.
  pub data Form : Type 0 where
    Block : Statements → Form
    Declares : Declaration → Form
    Evaluates : Tree → Form
    Empties : Form
    -- its name, the place after its `:`, its statement
    Labels : Name → (mark : ℕ) → Statement → Form
    Chooses : Tree → Statement → Perhaps → Form
    Whiles : Tree → Statement → Form
    Does : Statement → Tree → Form
    -- init, test, step, body
    Fors : Perhaps → Option Tree → Option Tree → Statement → Form
    Breaks : Form
    Continues : Form
    Returns : Option Tree → Form

  -- A statement that may be missing: an `else`, a `for`'s init.
  pub data Perhaps : Type 0 where
    nothing : Perhaps
    just : Statement → Perhaps

  -- Statements one after the other.
  pub data Statements : Type 0 where
    nil : Statements
    cons : Statement → Statements → Statements

-- A prototype: the name, what is given back, the parameters.
pub record Prototype : Type 0 where
  pub name : Name
  pub result : CType
  pub params : List Param

-- A function: `brace` is the place after its `{`.
pub record Definition : Type 0 where
  pub name : Name
  pub result : CType
  pub params : List Param
  pub brace : ℕ
  pub body : Statements

-- A file: its prototypes, its declarations outside functions and its functions, each in the source's order.
pub record File : Type 0 where
  pub protos : List Prototype
  pub globals : List Declaration
  pub functions : List Definition

-- What follows maps the generated types to these trees, and says nothing of its own.
abbrev mutual
  pub tree_of : Expr → Tree
  tree_of (Expr' op shape row from to) = Node op (row_trees row) from to

  pub row_trees : {n : _} → Row_of-Expr n → Trees
  row_trees end_of-Expr = none
  row_trees (more_of-Expr e rest) = more (tree_of e) (row_trees rest)

abbrev pub trees_of : List Expr → Trees
trees_of [] = none
trees_of (e ∷ es) = more (tree_of e) (trees_of es)

abbrev pub array_of : Option (Option Expr) → Option (Option Tree)
array_of array = option_map (option_map tree_of) array

abbrev pub declared_of : Item → Declared
declared_of i = record { kind = i.kind; name = i.name; array = array_of i.array; init = trees_of i.init.items; braces = i.braces }

abbrev pub declaration_of : Decl → Declaration
declaration_of d = record { external = d.external; fixed = d.fixed; constant = d.constant; items = map declared_of d.items.items; from = d.from; to = d.to }

abbrev mutual
  pub form_of : What → Form
  form_of (Block' shape row) = Block (row_statements row)
  form_of (DeclWhat d) = Declares (declaration_of d)
  form_of (ExprWhat e) = Evaluates (tree_of e)
  form_of Empty = Empties
  form_of (Label' name mark p what from to) = Labels name mark (Stated (form_of what) from to)
  form_of (If' test p what from to held) = Chooses (tree_of test) (Stated (form_of what) from to) (second_arm held)
  form_of (While' test p what from to) = Whiles (tree_of test) (Stated (form_of what) from to)
  form_of (Do' p what from to test) = Does (Stated (form_of what) from to) (tree_of test)
  form_of (For' p head q what from to) = for_of head (Stated (form_of what) from to)
  form_of Break = Breaks
  form_of Continue = Continues
  form_of (Return value) = Returns (option_map tree_of value)

  pub for_of : Head → Statement → Form
  for_of (Head' init test step) body = Fors (init_of init) (option_map tree_of test) (option_map tree_of step) body

  pub init_of : Held-Head-init → Perhaps
  init_of Head-init-None' = nothing
  init_of (Head-init-Some' what from to) = just (Stated (form_of what) from to)

  pub second_arm : Held-What-If-2 → Perhaps
  second_arm What-If-2-None' = nothing
  second_arm (What-If-2-Some' p what from to) = just (Stated (form_of what) from to)

  pub row_statements : {n : _} → Row_of-Stmt n → Statements
  row_statements end_of-Stmt = nil
  row_statements (more_of-Stmt what from to rest) = cons (Stated (form_of what) from to) (row_statements rest)

abbrev pub statement_of : Stmt → Statement
statement_of s = Stated (form_of s.what) s.from s.to

abbrev pub perhaps_of : Option Stmt → Perhaps
perhaps_of None = nothing
perhaps_of (Some s) = just (statement_of s)

abbrev pub statements_of : List Stmt → Statements
statements_of [] = nil
statements_of (s ∷ ss) = cons (statement_of s) (statements_of ss)

abbrev pub prototype_of : Proto → Prototype
prototype_of p = record { name = p.name; result = p.result; params = p.params.items }

abbrev pub definition_of : Function → Definition
definition_of f = record { name = f.name; result = f.result; params = f.params.items; brace = f.brace; body = statements_of f.body.items }

abbrev pub file_of : Program → File
file_of p = record { protos = map prototype_of p.protos.items; globals = map declaration_of p.globals.items; functions = map definition_of p.functions.items }
