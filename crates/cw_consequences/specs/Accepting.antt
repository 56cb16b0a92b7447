-- What is accepted ends well: where each stage of a command accepts what the files hold, nothing is over its limit and nothing failed, a text is due.
use Rattle.std.specs.Prelude.{◌≡◌, ◌⊎◌, ℕ, ◌≤◌, List, [], ◌∷◌, Option, Some, length}
use Rattle.cw_core.specs.Quantities.{limit_of}
use Rattle.cw_core.specs.declared.quantity.Quantity.TheVariants.{Points, PolicyBytes, SourceBytes}
use Rattle.cw_io.specs.Files.{FilesByName}
use Rattle.cw_rights.specs.Policies.{PlainPolicy}
use Rattle.cw_syntax.specs.Plans.{plan_of}
use Rattle.cw_syntax.specs.Trees.{File}
use Rattle.cw_resolve.specs.Scenes.{names_of}
use Rattle.cw_points.specs.declared.graph.Graph.{Graph}
use Rattle.cw_points.specs.Graphs.{IsGraph}
use Rattle.cw_points.specs.Points.{point_count}
use Rattle.cw_callgraph.specs.Fitting.{Fits}
use Rattle.cw_product.specs.Made.{IsMade}
use Rattle.cw_product.specs.Product.{Held, game_of}
use Rattle.cw_source.specs.Read.{ReadsAs}
use Rattle.cw_commands.specs.declared.command.Command.{Command}
use Rattle.cw_commands.specs.declared.command.Command.TheVariants.{Graph as GraphCommand, Weave}
use Rattle.cw_commands.specs.declared.ending.Ending.{Ending}
use Rattle.cw_commands.specs.Commands.{quantities_of}
use Rattle.cw_commands.specs.Endings.{status_of}
use Rattle.cw_commands.specs.Runs.{Ends}
use Rattle.cw_commands.specs.Statuses.{NoneRose}
use Rattle.cw_stages.specs.Games.{IsGame}
use Rattle.cw_stages.specs.Reading.{AreRead}
use Rattle.cw_stages.specs.Verdicts.{HasFewCells, HasManyRows}
use Rattle.cw_cli.specs.Due.{IsDue}
use Rattle.cw_cli.specs.Listings.{own_names}

-- Each stage of `weave` accepts the policy and the source, and no quantity is over its limit: they are read, the policy fits the program and detaches nothing,
-- the program has few points, the game is made of both, and it has few cells and rows.
pub record AreAccepted (policy source : List ℕ) : Type 0 where
  pub whole : PlainPolicy
  pub file : File
  pub graph : Graph
  pub held : Held
  pub short_policy : length policy ≤ limit_of PolicyBytes
  pub short : length source ≤ limit_of SourceBytes
  pub read : AreRead policy source whole file
  pub fits : Fits source file whole
  pub attached : whole.detached ≡ []
  pub points : point_count (plan_of (names_of whole) source file) ≤ limit_of Points
  pub drawn : IsGraph (names_of whole) source file graph
  pub game : IsGame whole graph held
  pub made : IsMade held
  pub cells : HasFewCells (game_of held)
  pub rows : HasManyRows (game_of held) → ⊥

-- So does `graph` accept a source that is read and has few points.
pub record IsAccepted (source : List ℕ) : Type 0 where
  pub file : File
  pub short : length source ≤ limit_of SourceBytes
  pub reads : ReadsAs source file
  pub points : point_count (plan_of (own_names source file) source file) ≤ limit_of Points

-- a command ended so over a shelf with these files, and no count rose
pub record EndsUnfailed {N : Type 0} (command : Command) (files : FilesByName) (names : List (List ℕ)) (ending : Ending N) : Type 0 where
  pub counts : List ℕ → ℕ
  pub later : List ℕ → ℕ
  pub old : Option (List ℕ)
  pub new : Option (List ℕ)
  pub faults : ℕ
  pub more : ℕ
  pub ends : Ends (IsDue command) (Some files) counts later old new faults more (quantities_of command) names ending
  pub unfailed : NoneRose counts later names faults more

abbrev pub WeaveEndsWell : Type 0 → Type 0
WeaveEndsWell N = (files : FilesByName) (first second policy source : List ℕ) (ending : Ending N) → files first ≡ Some policy → files second ≡ Some source → AreAccepted policy source
    → EndsUnfailed Weave files (first ∷ (second ∷ [])) ending → (status_of ending ≡ 0) ⊎ ((status_of ending ≡ 1) ⊎ (status_of ending ≡ 8))

abbrev pub GraphEndsWell : Type 0 → Type 0
GraphEndsWell N = (files : FilesByName) (name source : List ℕ) (ending : Ending N) → files name ≡ Some source → IsAccepted source
    → EndsUnfailed GraphCommand files (name ∷ []) ending → (status_of ending ≡ 0) ⊎ (status_of ending ≡ 8)
