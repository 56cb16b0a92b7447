-- The law: what a program opens is a variable of the policy, where the names that take the results of calls begin as C names do.
use Rattle.std.specs.Prelude.{◌≡◌, ℕ, zero, Bool, false, List, [], ◌∷◌, Option, Some, None, slice_get, IsTrue}
use Rattle.cw_rights.specs.Policies.{PlainDescriptor, PlainPolicy}
use Rattle.cw_rights.specs.Valid.{is_name_start, IsValid}
use Rattle.cw_syntax.specs.declared.program.Name.{Name}
use Rattle.cw_syntax.specs.declared.program.Op.TheVariants.{Name as NameOp, Call as CallOp, Assign}
use Rattle.cw_syntax.specs.Names.{text}
use Rattle.cw_syntax.specs.Trees.{Tree, Node as TreeNode, none, more, Statement, Stated, Form, Block, Declares, Evaluates, Empties, Labels, Chooses}
use Rattle.cw_syntax.specs.Trees.{Whiles, Does, Fors, Breaks, Continues, Returns}
use Rattle.cw_syntax.specs.Trees.{Perhaps, nothing, just, Statements, nil, cons, Definition, File}
use Rattle.cw_resolve.specs.Scenes.{names_of}
use Rattle.cw_points.specs.declared.graph.Point.TheVariants as point
use Rattle.cw_points.specs.declared.graph.Node.{Node}
use Rattle.cw_points.specs.declared.graph.Graph.{Graph}
use Rattle.cw_points.specs.Graphs.{IsGraph}

-- This holds of each expression that is a statement.
abbrev mutual
  pub EachStands : (Tree → Type 0) → Statement → Type 0
  EachStands T (Stated form from to) = EachStandsIn T form

  pub EachStandsIn : (Tree → Type 0) → Form → Type 0
  EachStandsIn T (Block ss) = EachStandsAll T ss
  EachStandsIn T (Declares d) = Unit {0}
  EachStandsIn T (Evaluates e) = T e
  EachStandsIn T Empties = Unit {0}
  EachStandsIn T (Labels name mark s) = EachStands T s
  EachStandsIn T (Chooses test s other) = EachStands T s × EachStandsArm T other
  EachStandsIn T (Whiles test s) = EachStands T s
  EachStandsIn T (Does s test) = EachStands T s
  EachStandsIn T (Fors init test step s) = EachStands T s
  EachStandsIn T Breaks = Unit {0}
  EachStandsIn T Continues = Unit {0}
  EachStandsIn T (Returns value) = Unit {0}

  pub EachStandsArm : (Tree → Type 0) → Perhaps → Type 0
  EachStandsArm T nothing = Unit {0}
  EachStandsArm T (just s) = EachStands T s

  pub EachStandsAll : (Tree → Type 0) → Statements → Type 0
  EachStandsAll T nil = Unit {0}
  EachStandsAll T (cons s ss) = EachStands T s × EachStandsAll T ss

abbrev pub EachStandsFrom : (Tree → Type 0) → List Definition → Type 0
EachStandsFrom T [] = Unit {0}
EachStandsFrom T (f ∷ fs) = EachStandsAll T f.body × EachStandsFrom T fs

-- the name to which the result of a call is assigned, as in `x = f(..)`
abbrev pub assigned : Tree → Option Name
assigned (TreeNode (Assign zero) (more (TreeNode NameOp parts at end) (more (TreeNode (CallOp f) arguments at' end') none)) from to) =
    Some (record { from = at; to = end })
assigned _ = None

-- a C name begins with a letter or `_`
abbrev pub begins_name : List ℕ → Bool
begins_name [] = false
begins_name (b ∷ rest) = is_name_start b

abbrev pub AssignsName : List ℕ → Tree → Type 0
AssignsName source e = (x : Name) → assigned e ≡ Some x → IsTrue (begins_name (text source x))

-- In each statement `x = f(..);` of the program x begins as a C name.
abbrev pub AssignsNames : List ℕ → File → Type 0
AssignsNames source file = EachStandsFrom (AssignsName source) file.functions

-- A point opens variables of the policy alone, and no number.
abbrev pub OpensVariable : PlainPolicy → Node → Type 0
OpensVariable policy n = (d : ℕ) → n.point ≡ point.Open d
    → (descriptor : PlainDescriptor) × (slice_get policy.descriptors d ≡ Some descriptor) × (descriptor.number ≡ None)

abbrev pub ProgramsOpenVariables : Type 0
ProgramsOpenVariables = (policy : PlainPolicy) (source : List ℕ) (file : File) (g : Graph)
    → IsValid policy → IsGraph (names_of policy) source file g → AssignsNames source file
    → (p : ℕ) (n : Node) → slice_get g.nodes.items p ≡ Some n → OpensVariable policy n
