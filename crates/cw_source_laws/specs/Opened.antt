-- The law: a program that is read opens variables of the policy alone.
use Rattle.std.specs.Prelude.{◌≡◌, ℕ, List, Some, slice_get}
use Rattle.cw_rights.specs.Policies.{PlainPolicy}
use Rattle.cw_rights.specs.Valid.{IsValid}
use Rattle.cw_syntax.specs.Trees.{File}
use Rattle.cw_resolve.specs.Scenes.{names_of}
use Rattle.cw_source.specs.Read.{ReadsAs}
use Rattle.cw_points.specs.declared.graph.Node.{Node}
use Rattle.cw_points.specs.declared.graph.Graph.{Graph}
use Rattle.cw_points.specs.Graphs.{IsGraph}
use Rattle.cw_positions.specs.Opens.{AssignsNames, OpensVariable}

-- In each statement `x = f(..);` of a program that is read, x begins as a C name.
abbrev pub ReadProgramsAssignNames : Type 0
ReadProgramsAssignNames = (source : List ℕ) (file : File) → ReadsAs source file → AssignsNames source file

-- Each point of its graph that opens a descriptor opens a variable of the policy, and no number.
abbrev pub ReadProgramsOpenVariables : Type 0
ReadProgramsOpenVariables = (policy : PlainPolicy) (source : List ℕ) (file : File) (graph : Graph)
    → IsValid policy → ReadsAs source file → IsGraph (names_of policy) source file graph
    → (p : ℕ) (node : Node) → slice_get graph.nodes.items p ≡ Some node → OpensVariable policy node
