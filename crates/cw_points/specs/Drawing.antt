-- Working definitions: a graph that is drawn front first, and what a statement adds to it.
use Rattle.std.specs.Prelude.{ℕ, ◌+◌, List, [], ◌∷◌, ◌++◌, length, Bool, Option, None, Some, map, is_some}
use Rattle.cw_syntax.specs.declared.program.Name.{Name}
use Rattle.cw_syntax.specs.Names.{text, number_in}
use Rattle.cw_syntax.specs.Trees.{Statement, Statements, Definition}
use Rattle.cw_syntax.specs.Plans.{Scene, Routine, steps_of, steps_of_all, numbered, numbered_all, routines_from}
use Rattle.cw_points.specs.declared.graph.Point.{Point}
use Rattle.cw_points.specs.declared.graph.Node.{Node}
use Rattle.cw_points.specs.declared.graph.Seam.{Seam}
use Rattle.cw_points.specs.declared.graph.Part.{Part}
use Rattle.cw_points.specs.declared.draft.Draft.{Draft}
use Rattle.cw_points.specs.declared.draft.Ways.{Ways}
use Rattle.cw_points.specs.Graphs.{node, nodes_in, nodes_in_all, nodes_of, nodes_from, seam, seams_in, seams_in_all, seams_from, parts_from}

pub record Drawn : Type 0 where
  pub nodes : List Node
  pub seams : List Seam

abbrev pub drawn_of : Draft → Drawn
drawn_of d = record { nodes = d.nodes.items; seams = d.seams.items }

-- with more points and seams, which depend on the numbers of the first of each
abbrev pub more : (ℕ → ℕ → List Node) → (ℕ → ℕ → List Seam) → Drawn → Drawn
more ns ss d = record { nodes = d.nodes ++ ns (length d.nodes) (length d.seams); seams = d.seams ++ ss (length d.nodes) (length d.seams) }

-- with points that are no seams, and with one that is a seam
unfoldable pub with_nodes : List Node → Drawn → Drawn
with_nodes ns d = more (λ n j. ns) (λ n j. []) d

abbrev pub with_node : Node → Drawn → Drawn
with_node what d = with_nodes (what ∷ []) d

unfoldable pub with_seam : Point → (function next place : ℕ) → Option Name → Drawn → Drawn
with_seam what f next place result d = more (λ n j. node what f (Some next) (Some j) ∷ []) (λ n j. seam n place result ∷ []) d

-- where the body of a loop leads that goes on at this point, and where a statement leads that goes on at this point
abbrev pub looped : Ways → ℕ → Ways
looped w turn = record { next = turn; exit = w.exit; broken = Some w.next; continued = Some turn }

abbrev pub before : Ways → ℕ → Ways
before w next = record { next = next; exit = w.exit; broken = w.broken; continued = w.continued }

-- with the statements of a function, which lead these ways
unfoldable pub laid : Scene → ℕ → Statement → Ways → Drawn → Drawn
laid c f s w d = more (λ n j. nodes_in f (numbered (steps_of c s) j) n w.next w.exit w.broken w.continued) (λ n j. seams_in (numbered (steps_of c s) j) n) d

unfoldable pub laid_all : Scene → ℕ → Statements → Ways → Drawn → Drawn
laid_all c f ss w d = more (λ n j. nodes_in_all f (numbered_all (steps_of_all c ss) j) n w.next w.exit w.broken w.continued) (λ n j. seams_in_all (numbered_all (steps_of_all c ss) j) n) d

-- with a function, and with the functions from this number on
abbrev pub routine_of : Scene → ℕ → Definition → Routine
routine_of c j f = record { mark = f.brace; seam = j; body = numbered_all (steps_of_all c f.body) (j + 1) }

unfoldable pub laid_one : Scene → ℕ → Definition → Drawn → Drawn
laid_one c f def d = more (λ n j. nodes_of f (routine_of c j def) n) (λ n j. seam n def.brace None ∷ seams_in_all (routine_of c j def).body (n + 1)) d

unfoldable pub laid_from : Scene → ℕ → List Definition → Drawn → Drawn
laid_from c f fs d = more (λ n j. nodes_from f (routines_from c j fs) n) (λ n j. seams_from (routines_from c j fs) n) d

abbrev pub nothing_drawn : Drawn
nothing_drawn = record { nodes = []; seams = [] }

-- which functions run in a process of their own
abbrev pub split_of : Scene → Definition → Bool
split_of c f = is_some (number_in c.names.splits (text c.source f.name))

unfoldable pub parted : Scene → List Definition → Drawn → List Part → List Part
parted c fs d ps = ps ++ parts_from (routines_from c (length d.seams) fs) (map (split_of c) fs) (length d.nodes)
