-- The graph of a program's points as lines of text: how many points there are, each function, each point.
use Rattle.std.specs.Prelude.{ℕ, List, [], ◌∷◌, ◌++◌, Option, map, length, slice_get, unwrap_or, codes}
use Rattle.std.specs.Fmt.{decimal}
use Rattle.std.specs.List.{flat_map, filter_map}
use Rattle.cw_core.specs.declared.ids.PointId.{PointId}
use Rattle.cw_text.specs.RowLines.{numbered}
use Rattle.cw_text.specs.Lines.{line}
use Rattle.cw_points.specs.declared.graph.Point.{Point}
use Rattle.cw_points.specs.declared.graph.Point.TheVariants.{Entry, Step, Branch, Label, Open, Close, Call, Exit}
use Rattle.cw_points.specs.declared.graph.Node.{Node}
use Rattle.cw_points.specs.declared.graph.Part.{Part}
use Rattle.cw_points.specs.declared.graph.Graph.{Graph}
use Rattle.cw_points.specs.Walks.{number_of}
use Rattle.cw_resolve.specs.Held.{name_in}

-- fields, each after one space
abbrev pub spaced : List (List ℕ) → List ℕ
spaced fields = flat_map (λ field. codes " " ++ field) fields

-- a head and the fields behind it; nothing where there are no fields
abbrev pub headed : List ℕ → List (List ℕ) → List ℕ
headed head [] = []
headed head (field ∷ fields) = head ++ spaced (field ∷ fields)

-- the points to which a point leads, the left one first
abbrev pub successors : List (Option PointId) → List ℕ
successors next = filter_map number_of next

-- what stands at a point, with its name
abbrev pub point_text : (functions labels descriptors : List (List ℕ)) → Point → List ℕ
point_text functions labels descriptors Entry = codes "entry"
point_text functions labels descriptors Step = codes "step"
point_text functions labels descriptors Branch = codes "branch"
point_text functions labels descriptors (Label l) = codes "label " ++ name_in labels l
point_text functions labels descriptors (Open d) = codes "open " ++ name_in descriptors d
point_text functions labels descriptors (Close d) = codes "close " ++ name_in descriptors d
point_text functions labels descriptors (Call f) = codes "call " ++ name_in functions f
point_text functions labels descriptors Exit = codes "exit"

-- `NUMBER FUNCTION KIND`, and where it has successors ` -> LEFT RIGHT`
abbrev pub point_line : (functions labels descriptors : List (List ℕ)) → ℕ → Node → List ℕ
point_line functions labels descriptors number node =
    line (decimal number ++ codes " " ++ name_in functions node.function ++ codes " " ++ point_text functions labels descriptors node.point ++ headed (codes " ->") (map decimal (successors node.next)))

-- the numbers of a function's entry and exit, each after one space
abbrev pub ends : Part → List ℕ
ends part = codes " " ++ decimal part.entry.0 ++ codes " " ++ decimal part.exit.0

-- `function NAME FIRST LAST`, and where it calls functions ` calls NAME NAME`
abbrev pub function_line : (functions calls : List (List ℕ)) → ℕ → Part → List ℕ
function_line functions calls number part =
    line (codes "function " ++ name_in functions number ++ ends part ++ headed (codes " calls") (map (name_in functions) (unwrap_or (slice_get calls number) [])))

-- The names are those of the functions, the labels and the descriptors by their numbers; `calls` has, for each function by its number,
-- the numbers of the functions that it calls.
unfoldable pub graph_text : (functions labels descriptors : List (List ℕ)) → (calls : List (List ℕ)) → Graph → List ℕ
graph_text functions labels descriptors calls graph =
    line (codes "points " ++ decimal (length graph.nodes.items))
    ++ numbered (function_line functions calls) graph.parts.items
    ++ numbered (point_line functions labels descriptors) graph.nodes.items
