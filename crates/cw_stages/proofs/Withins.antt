-- A graph has as many nodes as the program has points, and a program that is read has few functions.
use Rattle.std.proofs.Common.{◌≡◌, ℕ, ◌≤◌, List, length, ap, ◌∙◌, arith}
use Rattle.std.proofs.lemmas.List.{length-map}
use Rattle.cw_syntax.specs.declared.program.Program.{Program}
use Rattle.cw_syntax.specs.Names.{Names}
use Rattle.cw_syntax.specs.Plans.{plan_of}
use Rattle.cw_syntax.specs.Trees.{File, definition_of, file_of}
use Rattle.cw_points.specs.declared.graph.Graph.{Graph}
use Rattle.cw_points.specs.Graphs.{IsGraph, splits_of}
use Rattle.cw_points.specs.Points.{point_count}
use Rattle.cw_points.proofs.Laying.{splits_length}
use Rattle.cw_positions.proofs.Leading.{length_nodes}
use Rattle.cw_source.proofs.Starting.{functions_few}
use Rattle.cw_source.specs.Read.{ReadsAs}

pub nodes_few : (names : Names) (source : List ℕ) (file : File) (g : Graph) → IsGraph names source file g → point_count (plan_of names source file) ≤ 8192 → length g.nodes.items ≤ 8192
nodes_few names source file g is h = omega (arith, h, ap length is.nodes ∙ length_nodes (plan_of names source file))

pub few_functions : (names : Names) (source : List ℕ) (p : Program) → ReadsAs source (file_of p) → length p.functions.items ≤ 65535
few_functions names source p reads =
    omega (
      arith,
      functions_few names source (file_of p) reads,
      splits_length names source (file_of p),
      splits_many p,
    )
  where
    splits_many : (q : Program) → length (splits_of names source (file_of q)) ≡ length q.functions.items
    splits_many q = length-map (file_of q).functions _ ∙ length-map q.functions.items definition_of
