-- Where the points of a program lead, and its seams. Points are numbered from 0 in the order of the text.
-- Public source: ISO/IEC 9899:2011, sections 6.8.4 (selection), 6.8.5 (iteration), 6.8.6 (jumps).
use Rattle.std.specs.Prelude.{◌≡◌, ℕ, zero, suc, ◌+◌, List, [], ◌∷◌, ◌++◌, Bool, true, false, Option, Some, None, option_map, map, is_some}
use Rattle.cw_core.specs.declared.ids.PointId.{PointId}
use Rattle.cw_core.specs.declared.ids.SeamId.{SeamId}
use Rattle.cw_syntax.specs.declared.program.Name.{Name}
use Rattle.cw_syntax.specs.Names.{Names, text, number_in}
use Rattle.cw_syntax.specs.Trees.{File}
use Rattle.cw_syntax.specs.Plans.{Stm, Plain, Break, Continue, Return, Open, Close, Call, Group, Label, If, While, Do, For, Stms, end, then, Routine, Plan, plan_of}
use Rattle.cw_points.specs.declared.graph.Point.{Point}
use Rattle.cw_points.specs.declared.graph.Point.TheVariants as point
use Rattle.cw_points.specs.declared.graph.Node.{Node}
use Rattle.cw_points.specs.declared.graph.Seam.{Seam}
use Rattle.cw_points.specs.declared.graph.Part.{Part}
use Rattle.cw_points.specs.declared.graph.Graph.{Graph}
use Rattle.cw_points.specs.Points.{one_if, one_if_some, count, count_all}

abbrev pub point_id : ℕ → PointId
point_id n = record { 0 = n }

abbrev pub seam_id : ℕ → SeamId
seam_id n = record { 0 = n }

abbrev pub successors : Option ℕ → Option ℕ → List (Option PointId)
successors a b = option_map point_id a ∷ (option_map point_id b ∷ [])

-- what stands there, in a function, with its successor and its seam
abbrev pub node : Point → ℕ → Option ℕ → Option ℕ → Node
node what f next seam = record { point = what; function = f; next = successors next None; seam = option_map seam_id seam }

abbrev pub step : ℕ → Option ℕ → Node
step f next = node point.Step f next None

abbrev pub branch : ℕ → ℕ → ℕ → Node
branch f m n = record { point = point.Branch; function = f; next = successors (Some m) (Some n); seam = None }

-- where a part of so many points begins: at its first one, or, where it has none, at what follows
abbrev pub first : (count at next : ℕ) → ℕ
first zero n k = k
first (suc c) n k = n

-- the init of a `for`, which goes to the test
abbrev pub init_nodes : ℕ → Option ℕ → ℕ → List Node
init_nodes f None t = []
init_nodes f (Some at) t = step f (Some t) ∷ []

-- a test: to the body at m, and with a condition also to what follows at k
abbrev pub test_node : ℕ → Bool → ℕ → ℕ → Node
test_node f true m k = branch f m k
test_node f false m k = step f (Some m)

-- the step of a `for`, which goes to the test
abbrev pub step_nodes : ℕ → Bool → ℕ → List Node
step_nodes f true t = step f (Some t) ∷ []
step_nodes f false t = []

-- the test of a `for`, its step and its body, which begins at m; what follows begins at k, and the test is at t
abbrev pub turns : ℕ → (decided stepped : Bool) → (m k t : ℕ) → List Node → List Node
turns f decided stepped m k t body = test_node f decided m k ∷ (step_nodes f stepped t ++ body)

-- the test of a `for` that begins at n, and where its body goes on: to the step, or to the test where there is none
abbrev pub test_of : ℕ → Option ℕ → ℕ
test_of n init = n + one_if_some init

abbrev pub turn_of : ℕ → Option ℕ → Bool → ℕ
turn_of n init stepped = test_of n init + one_if stepped

-- The points of a statement of function f, the first of which has the number n: what follows begins at k, a `return` leads to x, a `break` to b and
-- a `continue` to c, where a loop is around it.
abbrev mutual
  pub nodes_in : ℕ → Stm → (n k x : ℕ) → (b c : Option ℕ) → List Node
  nodes_in f (Plain at) n k x b c = step f (Some k) ∷ []
  nodes_in f (Break at) n k x b c = step f b ∷ []
  nodes_in f (Continue at) n k x b c = step f c ∷ []
  nodes_in f (Return at) n k x b c = step f (Some x) ∷ []
  nodes_in f (Open at j d) n k x b c = node (point.Open d) f (Some k) (Some j) ∷ []
  nodes_in f (Close at j d) n k x b c = node (point.Close d) f (Some k) (Some j) ∷ []
  nodes_in f (Call at j callee) n k x b c = node (point.Call callee.number) f (Some k) (Some j) ∷ []
  nodes_in f (Group ss) n k x b c = nodes_in_all f ss n k x b c
  nodes_in f (Label at mark j l s) n k x b c = node (point.Label l) f (Some (first (count s) (n + 1) k)) (Some j) ∷ nodes_in f s (n + 1) k x b c
  nodes_in f (If at s t) n k x b c =
      branch f (first (count s) (n + 1) k) (first (count t) (n + 1 + count s) k) ∷ (nodes_in f s (n + 1) k x b c ++ nodes_in f t (n + 1 + count s) k x b c)
  nodes_in f (While at s) n k x b c = branch f (first (count s) (n + 1) n) k ∷ nodes_in f s (n + 1) n x (Some k) (Some n)
  nodes_in f (Do at s) n k x b c = nodes_in f s n (n + count s) x (Some k) (Some (n + count s)) ++ branch f n k ∷ []
  nodes_in f (For at init decided stepped s) n k x b c =
      init_nodes f init (test_of n init)
      ++ turns f decided stepped (first (count s) (turn_of n init stepped + 1) (turn_of n init stepped)) k (test_of n init)
      (nodes_in f s (turn_of n init stepped + 1) (turn_of n init stepped) x (Some k) (Some (turn_of n init stepped)))

  pub nodes_in_all : ℕ → Stms → (n k x : ℕ) → (b c : Option ℕ) → List Node
  nodes_in_all f end n k x b c = []
  nodes_in_all f (then s ss) n k x b c = nodes_in f s n (first (count_all ss) (n + count s) k) x b c ++ nodes_in_all f ss (n + count s) k x b c

-- where a function ends that begins at n
abbrev pub exit_of : Routine → ℕ → ℕ
exit_of r n = n + 1 + count_all r.body

abbrev pub nodes_of : ℕ → Routine → ℕ → List Node
nodes_of f r n =
    node point.Entry f (Some (first (count_all r.body) (n + 1) (exit_of r n))) (Some r.seam)
    ∷ (nodes_in_all f r.body (n + 1) (exit_of r n) (exit_of r n) None None ++ node point.Exit f None None ∷ [])

-- the functions from this number and this point on
abbrev pub nodes_from : ℕ → List Routine → ℕ → List Node
nodes_from f [] n = []
nodes_from f (r ∷ rs) n = nodes_of f r n ++ nodes_from (f + 1) rs (exit_of r n + 1)

abbrev pub nodes : Plan → List Node
nodes plan = nodes_from 0 plan.routines 0

-- where each function begins and ends
abbrev pub part : ℕ → ℕ → Bool → Part
part entry exit split = record { entry = point_id entry; exit = point_id exit; split = split }

abbrev pub parts_from : List Routine → List Bool → ℕ → List Part
parts_from (r ∷ rs) (split ∷ splits) n = part n (exit_of r n) split ∷ parts_from rs splits (exit_of r n + 1)
parts_from _ _ n = []

-- which functions run in a process of their own, where they are called so
abbrev pub splits_of : Names → List ℕ → File → List Bool
splits_of names source file = map (λ f. is_some (number_in names.splits (text source f.name))) file.functions

-- The seams in the order of their marks: an entry's mark stands behind the `{`, a label's behind its `:`, all others before their statement.
abbrev pub seam : (point place : ℕ) → Option Name → Seam
seam p place result = record { point = point_id p; place = place; result = result }

abbrev mutual
  pub seams_in : Stm → ℕ → List Seam
  seams_in (Plain at) n = []
  seams_in (Break at) n = []
  seams_in (Continue at) n = []
  seams_in (Return at) n = []
  seams_in (Open at j d) n = seam n at None ∷ []
  seams_in (Close at j d) n = seam n at None ∷ []
  seams_in (Call at j callee) n = seam n at callee.result ∷ []
  seams_in (Group ss) n = seams_in_all ss n
  seams_in (Label at mark j l s) n = seam n mark None ∷ seams_in s (n + 1)
  seams_in (If at s t) n = seams_in s (n + 1) ++ seams_in t (n + 1 + count s)
  seams_in (While at s) n = seams_in s (n + 1)
  seams_in (Do at s) n = seams_in s n
  seams_in (For at init decided stepped s) n = seams_in s (turn_of n init stepped + 1)

  pub seams_in_all : Stms → ℕ → List Seam
  seams_in_all end n = []
  seams_in_all (then s ss) n = seams_in s n ++ seams_in_all ss (n + count s)

abbrev pub seams_from : List Routine → ℕ → List Seam
seams_from [] n = []
seams_from (r ∷ rs) n = seam n r.mark None ∷ (seams_in_all r.body (n + 1) ++ seams_from rs (exit_of r n + 1))

-- The graph of a program under a policy's names.
pub record IsGraph (names : Names) (source : List ℕ) (file : File) (g : Graph) : Type 0 where
  pub nodes : g.nodes.items ≡ nodes (plan_of names source file)
  pub parts : g.parts.items ≡ parts_from (plan_of names source file).routines (splits_of names source file) 0
  pub main : g.main ≡ (plan_of names source file).main
  pub seams : g.seams.items ≡ seams_from (plan_of names source file).routines 0
