-- The seams of a graph, among its positions.
use Rattle.std.specs.Prelude.{◌≡◌, ℕ, List, Option, Some, None, length, slice_get, nat_lt}
use Rattle.std.specs.List.{list_any}
use Rattle.cw_rights.specs.Policies.{PlainPolicy}
use Rattle.cw_syntax.specs.Names.{Names}
use Rattle.cw_syntax.specs.Trees.{File}
use Rattle.cw_game.specs.Conditions.{has_seam, has_stage}
use Rattle.cw_points.specs.declared.graph.Node.{Node}
use Rattle.cw_points.specs.declared.graph.Part.{Part}
use Rattle.cw_points.specs.declared.graph.Seam.{Seam}
use Rattle.cw_points.specs.declared.graph.Graph.{Graph}
use Rattle.cw_points.specs.Graphs.{IsGraph}
use Rattle.cw_positions.specs.Positions.{primitives_at, spots}

-- how many primitives are tried or skipped at a seam's point (none, where there is no such seam or point)
abbrev pub stages_at : PlainPolicy → List Part → Option Node → ℕ
stages_at policy parts None = 0
stages_at policy parts (Some node) = length (primitives_at policy parts node.point)

abbrev pub node_of : List Node → Option Seam → Option Node
node_of nodes None = None
node_of nodes (Some seam) = slice_get nodes seam.point.0

abbrev pub stages_of : Graph → PlainPolicy → ℕ → ℕ
stages_of graph policy j = stages_at policy graph.parts.items (node_of graph.nodes.items (slice_get graph.seams.items j))

-- Some position has a seam exactly where the graph has it.
abbrev pub SeamsAreSeen : Type 0
SeamsAreSeen = (names : Names) (source : List ℕ) (file : File) (g : Graph) (policy : PlainPolicy) → IsGraph names source file g
    → (j : ℕ) → list_any (has_seam j) (spots g policy) ≡ nat_lt j (length g.seams.items)

-- Some position visits a stage of a seam exactly where it is below the number of the primitives at the seam's point.
abbrev pub StagesAreSeen : Type 0
StagesAreSeen = (names : Names) (source : List ℕ) (file : File) (g : Graph) (policy : PlainPolicy) → IsGraph names source file g
    → (j i : ℕ) → list_any (has_stage j i) (spots g policy) ≡ nat_lt i (stages_of g policy j)
