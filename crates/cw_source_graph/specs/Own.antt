-- A program under its own labels and no other names: the graph of its points, and what each function calls.
use Rattle.std.specs.Prelude.{◌≡◌, ℕ, ◌<◌, ◌≤◌, List, [], length, map}
use Rattle.std.specs.List.{range_with_len}
use Rattle.cw_core.specs.Quantities.{limit_of}
use Rattle.cw_core.specs.declared.quantity.Quantity.TheVariants.{Points}
use Rattle.cw_syntax.specs.Names.{Names}
use Rattle.cw_syntax.specs.Plans.{Plan, plan_of}
use Rattle.cw_syntax.specs.Trees.{File}
use Rattle.cw_resolve.specs.Held.{lists}
use Rattle.cw_resolve.specs.Labels.{label_names}
use Rattle.cw_points.specs.Graphs.{IsGraph}
use Rattle.cw_points.specs.Points.{point_count}
use Rattle.cw_callgraph.specs.Effects.{calls}
use Rattle.cw_source_graph.specs.declared.own.Drawn.{Drawn}

-- no descriptors and no functions in processes of their own; a label's number is that of its name among the source's
abbrev pub own_names : List ℕ → File → Names
own_names source file = record { descriptors = []; labels = label_names source file; splits = [] }

-- the functions that each function of a plan calls, of so many
abbrev pub call_lists : Plan → ℕ → List (List ℕ)
call_lists plan count = map (calls plan) (range_with_len 0 count)

-- the program has more points than it may
abbrev pub HasManyPoints : Names → List ℕ → File → Type 0
HasManyPoints names source file = limit_of Points < point_count (plan_of names source file)

-- The program has few points, and these are the labels among the names, its graph under them, and what each of its functions calls.
pub record IsDrawn (names : Names) (source : List ℕ) (file : File) (drawn : Drawn) : Type 0 where
  pub few : point_count (plan_of names source file) ≤ limit_of Points
  pub labels : lists drawn.labels.items ≡ names.labels
  pub graph : IsGraph names source file drawn.graph
  pub calls : lists drawn.calls.items ≡ call_lists (plan_of names source file) (length file.functions)
