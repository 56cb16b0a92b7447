-- The game of a policy and a program: why none comes of them, and what comes behind that.
use Rattle.std.specs.Prelude.{◌≡◌, ◌≢◌, ◌⊎◌, ℕ, ◌<◌, ◌≤◌, List, codes}
use Rattle.cw_core.specs.Quantities.{limit_of}
use Rattle.cw_core.specs.declared.quantity.Quantity.TheVariants.{Points, RightsStates, PolicyStates, ProductStates, PositionsTimesStates}
use Rattle.cw_rights.specs.Policies.{PlainPolicy, policy_of}
use Rattle.cw_syntax.specs.Trees.{File}
use Rattle.cw_syntax.specs.Plans.{plan_of}
use Rattle.cw_resolve.specs.Scenes.{names_of}
use Rattle.cw_points.specs.declared.graph.Graph.{Graph}
use Rattle.cw_points.specs.Graphs.{IsGraph}
use Rattle.cw_points.specs.Points.{point_count}
use Rattle.cw_model.specs.Boards.{problem_of}
use Rattle.cw_game.specs.Games.{Game}
use Rattle.cw_game.specs.Standing.{IsGameOf}
use Rattle.cw_states.specs.States.{AreLists, lists_of}
use Rattle.cw_product.specs.declared.fault.GameFault.{GameFault}
use Rattle.cw_product.specs.declared.fault.GameFault.TheVariants.{TooManyCaps, TooManyWords, TooManyStates, TooManyPositions, NoMemory}
use Rattle.cw_product.specs.Product.{Held, game_of, IsCause}
use Rattle.cw_product.specs.Made.{IsMade}
use Rattle.cw_product.specs.Uses.{uses_of}
use Rattle.cw_callgraph.specs.Fitting.{Fits}
use Rattle.cw_commands.specs.declared.outcome.Cause.TheVariants.{Grammar}
use Rattle.cw_commands.specs.Outcomes.{Due, Refused}
use Rattle.cw_stages.specs.Fitting.{IsFitRefusal}
use Rattle.cw_stages.specs.Refusals.{over}

-- the game is over one of its numbers
abbrev pub game_refusal : GameFault → Due
game_refusal TooManyCaps = over RightsStates
game_refusal TooManyWords = over PolicyStates
game_refusal TooManyStates = over ProductStates
game_refusal TooManyPositions = over PositionsTimesStates
game_refusal NoMemory = Refused Grammar (codes "memory")

abbrev pub IsGameRefusal : PlainPolicy → Graph → Due → Type 0
IsGameRefusal whole graph due = (f : GameFault) × (f ≢ NoMemory) × IsCause whole graph f × (due ≡ game_refusal f)

-- the game of a policy and of the graph of a program: the positions of its points beside the policy's states, which are listed exactly
pub record IsGame (whole : PlainPolicy) (graph : Graph) (held : Held) : Type 0 where
  pub graph_is : held.graph ≡ graph
  pub policy_is : policy_of held.states.policy ≡ whole
  pub lists : AreLists (uses_of whole graph.nodes.items) (lists_of held.states)

-- That the game is over one of its numbers; or it is over none of them, and what comes next for it, which is that of the program.
abbrev pub WithGame : (Game → Due → Type 0) → List ℕ → PlainPolicy → File → Graph → Due → Type 0
WithGame Next source whole file graph due =
    IsGameRefusal whole graph due
    ⊎ ((held : Held) × IsGame whole graph held × IsMade held × IsGameOf (problem_of whole source file) (game_of held) × Next (game_of held) due)

-- the program has too many points
abbrev pub IsPointsRefusal : List ℕ → PlainPolicy → File → Due → Type 0
IsPointsRefusal source whole file due = (limit_of Points < point_count (plan_of (names_of whole) source file)) × (due ≡ over Points)

-- That the program has too many points; or it hasn't, and what comes behind that.
abbrev pub WithGraph : (Game → Due → Type 0) → List ℕ → PlainPolicy → File → Due → Type 0
WithGraph Next source whole file due =
    IsPointsRefusal source whole file due
    ⊎ ((point_count (plan_of (names_of whole) source file) ≤ limit_of Points)
    × (graph : Graph) × IsGraph (names_of whole) source file graph × WithGame Next source whole file graph due)

-- That the policy doesn't fit the program, or what comes behind that.
abbrev pub WhereFits : (Game → Due → Type 0) → List ℕ → PlainPolicy → File → Due → Type 0
WhereFits Next source whole file due = IsFitRefusal source file whole due ⊎ (Fits source file whole × WithGraph Next source whole file due)

-- The same of the program of a woven text, whose points were counted as it was read.
abbrev pub WhereWovenFits : (Game → Due → Type 0) → List ℕ → PlainPolicy → File → Due → Type 0
WhereWovenFits Next source whole file due =
    IsFitRefusal source file whole due
    ⊎ (Fits source file whole × (graph : Graph) × IsGraph (names_of whole) source file graph × WithGame Next source whole file graph due)
