-- The law: a program that is read doesn't call `main`.
use Rattle.std.specs.Prelude.{ℕ, List}
use Rattle.cw_rights.specs.Policies.{PlainPolicy}
use Rattle.cw_syntax.specs.Names.{Names}
use Rattle.cw_syntax.specs.Trees.{File}
use Rattle.cw_source.specs.Read.{ReadsAs}
use Rattle.cw_points.specs.declared.graph.Graph.{Graph}
use Rattle.cw_points.specs.Graphs.{IsGraph}
use Rattle.cw_product.specs.Made.{LeavesMain}

-- No position of its graph calls `main`, by whichever names the graph is drawn and under whichever policy its positions are.
abbrev pub ReadProgramsLeaveMain : Type 0
ReadProgramsLeaveMain = (names : Names) (policy : PlainPolicy) (source : List ℕ) (file : File) (graph : Graph)
    → ReadsAs source file → IsGraph names source file graph → LeavesMain policy graph
