-- What passing an item does beside the step itself: what it evaluates, and the way that this decides.
use Rattle.std.specs.Prelude.{ℕ, ℤ, pos, negsuc, List, [], ◌∷◌, ◌++◌, Bool, true, false, nat_eq, Option, Some, None, option_map, option_and_then, find}
use Rattle.cw_syntax.specs.declared.program.Op.TheVariants.{Call as CallOp}
use Rattle.cw_syntax.specs.Trees.{Tree, Node, Trees, none, more, Declaration, Statement, Stated, Form, Block, Declares, Evaluates, Labels, Chooses, Whiles, Does, Fors, Returns, Perhaps, nothing, just, Statements, nil, cons, Definition}
use Rattle.cw_syntax.specs.Plans.{Stm, Plain, Return, Open, Close, Call, If}
use Rattle.cw_syntax.specs.Frames.{Item, Todo, Test, After, Way, On, Left, Right, Opened, Failed}
use Rattle.cw_figures.specs.Figures.{is_zero}
use Rattle.cw_value.specs.Stores.{Cell}
use Rattle.cw_value.specs.Expressions.{Scope, Memory, Outcome, gives, ◌and◌, value}
use Rattle.cw_value.specs.Declarations.{declares}

-- ---- what stands in a function

-- the init of a `for` is a declaration or an expression
abbrev pub init_in : Form → (from to : ℕ) → List Statement
init_in (Declares d) from to = Stated (Declares d) from to ∷ []
init_in (Evaluates e) from to = Stated (Evaluates e) from to ∷ []
init_in _ from to = []

abbrev pub said_init : Perhaps → List Statement
said_init nothing = []
said_init (just (Stated form from to)) = init_in form from to

-- a statement and all that are in it, each before those in it, in the order of the text
abbrev mutual
  pub said : Statement → List Statement
  said (Stated form from to) = Stated form from to ∷ said_in form

  pub said_in : Form → List Statement
  said_in (Block ss) = said_all ss
  said_in (Labels name mark s) = said s
  said_in (Chooses test s other) = said s ++ said_if other
  said_in (Whiles test s) = said s
  said_in (Does s test) = said s
  said_in (Fors init test step s) = said_init init ++ said s
  said_in _ = []

  pub said_if : Perhaps → List Statement
  said_if nothing = []
  said_if (just s) = said s

  pub said_all : Statements → List Statement
  said_all nil = []
  said_all (cons s ss) = said s ++ said_all ss

abbrev pub begins_at : ℕ → Statement → Bool
begins_at at (Stated form from to) = nat_eq from at

abbrev pub form_of : Statement → Form
form_of (Stated form from to) = form

-- the statement of a function that begins at a place
abbrev pub form_at : Definition → ℕ → Option Form
form_at f at = option_map form_of (find (begins_at at) (said_all f.body))

-- ---- what an item does

-- Its kind is that of the item, whatever is found at its place. So the way that it leads to is always one of the item's ways.
pub data Deed : Type 0 where
  Rests : Deed
  Computes : Option Tree → Deed
  Makes : Declaration → Deed
  Decides : Option Tree → Deed
  Opens : Option Tree → Deed
  Calls : Trees → Deed
  Answers : Option Tree → Deed

abbrev pub plain_deed : Form → Deed
plain_deed (Evaluates e) = Computes (Some e)
plain_deed (Declares d) = Makes d
plain_deed _ = Rests

abbrev pub plain_if : Option Form → Deed
plain_if None = Rests
plain_if (Some form) = plain_deed form

abbrev pub evaluated : Form → Option Tree
evaluated (Evaluates e) = Some e
evaluated _ = None

abbrev pub returned : Form → Option Tree
returned (Returns e) = e
returned _ = None

abbrev pub condition : Form → Option Tree
condition (Chooses e s other) = Some e
condition (Whiles e s) = Some e
condition (Does s e) = Some e
condition (Fors init e step s) = e
condition _ = None

abbrev pub next_turn : Form → Option Tree
next_turn (Fors init test e s) = e
next_turn _ = None

-- the arguments of `f(..)` and of `x = f(..)`
abbrev pub arguments_of : Tree → Trees
arguments_of (Node (CallOp f) parts from to) = parts
arguments_of (Node op (more x (more (Node g parts at end) rest)) from to) = parts
arguments_of _ = none

abbrev pub arguments_if : Option Tree → Trees
arguments_if None = none
arguments_if (Some e) = arguments_of e

module _ (f : Definition) where
  abbrev pub tree_at : (Form → Option Tree) → ℕ → Option Tree
  tree_at part at = option_and_then part (form_at f at)

  abbrev pub decides_if : Bool → ℕ → Deed
  decides_if true at = Decides (tree_at condition at)
  decides_if false at = Rests

  abbrev pub statement_deed : Stm → Deed
  statement_deed (Plain at) = plain_if (form_at f at)
  statement_deed (Return at) = Answers (tree_at returned at)
  statement_deed (Open at j d) = Opens (tree_at evaluated at)
  statement_deed (Close at j d) = Computes (tree_at evaluated at)
  statement_deed (Call at j callee) = Calls (arguments_if (tree_at evaluated at))
  statement_deed (If at s t) = Decides (tree_at condition at)
  statement_deed _ = Rests

  abbrev pub deed_of : Item → Deed
  deed_of (Todo s) = statement_deed s
  deed_of (Test at d u s) = decides_if d at
  deed_of (After at) = Computes (tree_at next_turn at)
  deed_of _ = Rests

-- ---- what it leads to

-- the way on; the values of a call's arguments; the value of a `return`
pub record Passing : Type 0 where
  pub way : Way
  pub arguments : List ℤ
  pub answer : Cell

abbrev pub by_way : Way → Passing
by_way way = record { way = way; arguments = []; answer = None }

abbrev pub side : Bool → Way
side true = Right
side false = Left

abbrev pub success : ℤ → Way
success (pos n) = Opened
success (negsuc n) = Failed

abbrev pub decided_by : Option ℤ → Way
decided_by None = Left
decided_by (Some z) = side (is_zero z)

abbrev pub opened_by : Option ℤ → Way
opened_by None = Opened
opened_by (Some z) = success z

module _ (s : Scope) where
  abbrev pub values : Trees → Memory → Outcome (List ℤ)
  values none m = gives [] m
  values (more e es) m = value s e m and (λ z k. values es k and (λ zs l. gives (z ∷ zs) l))

  abbrev pub value_if : Option Tree → Memory → Outcome (Option ℤ)
  value_if None m = gives None m
  value_if (Some e) m = value s e m and (λ z k. gives (Some z) k)

  abbrev pub does : Deed → Memory → Outcome Passing
  does Rests m = gives (by_way On) m
  does (Computes e) m = value_if e m and (λ z k. gives (by_way On) k)
  does (Makes d) m = declares s d m and (λ z k. gives (by_way On) k)
  does (Decides e) m = value_if e m and (λ z k. gives (by_way (decided_by z)) k)
  does (Opens e) m = value_if e m and (λ z k. gives (by_way (opened_by z)) k)
  does (Calls es) m = values es m and (λ zs k. gives (record { way = On; arguments = zs; answer = None }) k)
  does (Answers e) m = value_if e m and (λ z k. gives (record { way = On; arguments = []; answer = z }) k)
