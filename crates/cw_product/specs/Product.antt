-- The game of a program's graph and a policy: the positions of the graph's points beside the states of the policy.
use Rattle.std.specs.Prelude.{◌≡◌, ℕ, ◌*◌, ◌<◌, List, length}
use Rattle.cw_core.specs.declared.quantity.Quantity.TheVariants.{PositionsTimesStates}
use Rattle.cw_core.specs.Quantities.{limit_of}
use Rattle.cw_rights.specs.Policies.{PlainPolicy, policy_of}
use Rattle.cw_syntax.specs.Trees.{File}
use Rattle.cw_syntax.specs.Plans.{plan_of}
use Rattle.cw_syntax.specs.Runnable.{IsRunnable}
use Rattle.cw_resolve.specs.Scenes.{names_of}
use Rattle.cw_points.specs.declared.graph.Graph.{Graph}
use Rattle.cw_points.specs.Graphs.{IsGraph}
use Rattle.cw_game.specs.Games.{Game}
use Rattle.cw_states.specs.declared.fault.StatesFault.TheVariants as states
use Rattle.cw_states.specs.States.{Held as HeldStates, Lists, AreLists, AreFew, count, lists_of, states_of, IsCause as IsStatesCause}
use Rattle.cw_positions.specs.Positions.{spots, entry_of, exit_of}
use Rattle.cw_product.specs.declared.fault.GameFault.{GameFault}
use Rattle.cw_product.specs.declared.fault.GameFault.TheVariants.{TooManyCaps, TooManyWords, TooManyStates, TooManyPositions, NoMemory}
use Rattle.cw_product.specs.Uses.{uses_of}

-- A graph, and the states of a policy.
pub record Held : Type 0 where
  pub graph : Graph
  pub states : HeldStates

abbrev pub game_of : Held → Game
game_of h = record {
  spots = spots h.graph (policy_of h.states.policy);
  entry = entry_of h.graph (policy_of h.states.policy);
  exit = exit_of h.graph (policy_of h.states.policy);
  main = h.graph.main;
  policy = policy_of h.states.policy;
  states = states_of (lists_of h.states);
}

-- the graph is that of a program that can be run, under the policy's names
pub record IsProgramsGraph (policy : PlainPolicy) (graph : Graph) : Type 0 where
  pub source : List ℕ
  pub file : File
  pub runnable : IsRunnable (plan_of (names_of policy) source file)
  pub drawn : IsGraph (names_of policy) source file graph

-- why there is no game: the first of these numbers that is over its limit
abbrev pub IsCause : PlainPolicy → Graph → GameFault → Type 0
IsCause policy graph TooManyCaps = IsStatesCause policy (uses_of policy graph.nodes.items) states.TooManyCaps
IsCause policy graph TooManyWords = IsStatesCause policy (uses_of policy graph.nodes.items) states.TooManyWords
IsCause policy graph TooManyStates = IsStatesCause policy (uses_of policy graph.nodes.items) states.TooManyStates
IsCause policy graph TooManyPositions =
    (v : Lists) × (v.policy ≡ policy) × AreLists (uses_of policy graph.nodes.items) v × AreFew v
    × (limit_of PositionsTimesStates < length (spots graph policy) * count v)
IsCause policy graph NoMemory = Unit {0}
