-- What a run goes by.
use Rattle.std.specs.Prelude.{◌≡◌, ℕ, List, [], ◌∷◌, map, Option, Some, None, option_map, slice_get}
use Rattle.std.specs.List.{All}
use Rattle.cw_core.specs.declared.ids.PointId.{PointId}
use Rattle.cw_rights.specs.Policies.{PlainPolicy}
use Rattle.cw_syntax.specs.Trees.{File}
use Rattle.cw_syntax.specs.Plans.{plan_of}
use Rattle.cw_syntax.specs.Frames.{Way, Right}
use Rattle.cw_resolve.specs.Scenes.{names_of}
use Rattle.cw_points.specs.Graphs.{IsGraph}
use Rattle.cw_points.specs.Points.{points}
use Rattle.cw_deeds.specs.declared.items.Row.{Row}
use Rattle.cw_deeds.specs.Rows.{row_of}
use Rattle.cw_starts.specs.Sources.{source_in}
use Rattle.cw_value.specs.Deeds.{said_all}
use Rattle.cw_value.specs.Machines.{no_names, own_names, shared_names}
use Rattle.cw_machine.specs.declared.machine.Wait.{Wait}
use Rattle.cw_machine.specs.Knowing.{IsTask, rows_in, said_in, seen_by}
use Rattle.cw_values.specs.Stands.{plan}
use Rattle.cw_values.specs.declared.running.Run.{Run}
use Rattle.cw_values.specs.declared.prepared.Prepared.{Prepared}

-- the rows of the tasks of a run
abbrev pub rows_of : Run → List Row
rows_of run = rows_in run.known.tasks.now

-- the graph is the program's, and the rows of the tasks are those of its points
pub record IsRunOf (policy : PlainPolicy) (run : Run) : Type 0 where
  pub graph : IsGraph (names_of policy) (source_in run.known.source).bytes (source_in run.known.source).file run.graph.now
  pub rows : rows_of run ≡ map row_of (points (plan policy (source_in run.known.source)))

-- what is drawn from a program: the tasks are right and have the rows of its points, the names are the file's and its functions', the statements each function's, and what stands in each is
-- known by its names
pub record IsPrepared (policy : PlainPolicy) (bytes : List ℕ) (file : File) (p : Prepared) : Type 0 where
  pub rows : rows_in p.tasks.items ≡ map row_of (points (plan_of (names_of policy) bytes file))
  pub tasks : All (IsTask file.functions) p.tasks.items
  pub shared : p.shared ≡ shared_names bytes file
  pub none : p.none ≡ no_names
  pub own : p.own.items ≡ map (own_names bytes) file.functions
  pub said : map said_in p.said.items ≡ map (λ f. said_all f.body) file.functions
  pub standing : p.standing.items ≡ map (λ f. seen_by bytes file (own_names bytes f)) file.functions
  pub nowhere : p.nowhere ≡ seen_by bytes file no_names

-- where `main` begins
abbrev pub entry_of : Run → Option PointId
entry_of run = option_map (λ part. part.entry) (slice_get run.graph.now.parts.items run.graph.now.main)

-- the successor by a way: the first, but on the right the second
abbrev pub first : List (Option PointId) → Option PointId
first [] = None
first (a ∷ rest) = a

abbrev pub second : List (Option PointId) → Option PointId
second [] = None
second (a ∷ rest) = first rest

abbrev pub next_by : List (Option PointId) → Way → Option PointId
next_by next Right = second next
next_by next _ = first next

-- the point to which the innermost call returns that waits
abbrev pub first_back : List Wait → Option PointId
first_back [] = None
first_back (w ∷ ws) = Some w.back
