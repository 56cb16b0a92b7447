-- What is asked of a game that is solved: that `Game::make` gives it, of the graph of a program that can be run and of the states of a valid policy
-- for it, and that the program doesn't call `main`.
use Rattle.std.specs.Prelude.{◌≡◌, ℕ, ◌*◌, ◌≤◌, Some, length, slice_get}
use Rattle.cw_core.specs.Quantities.{limit_of}
use Rattle.cw_core.specs.declared.quantity.Quantity.TheVariants.{PositionsTimesStates}
use Rattle.cw_rights.specs.Policies.{PlainPolicy, policy_of}
use Rattle.cw_rights.specs.Valid.{IsValid}
use Rattle.cw_points.specs.declared.graph.Graph.{Graph}
use Rattle.cw_game.specs.Pairs.{Called, call_in}
use Rattle.cw_positions.specs.Positions.{spots}
use Rattle.cw_states.specs.States.{AreLists, AreFew, lists_of}
use Rattle.cw_product.specs.Product.{Held, game_of, IsProgramsGraph}
use Rattle.cw_product.specs.Uses.{uses_of}

-- No call at the positions of a graph is one of `main`, whose exit ends the program.
pub record LeavesMain (policy : PlainPolicy) (graph : Graph) : Type 0 where
  pub uncalled : (p : ℕ) (call : Called) → call_in (slice_get (spots graph policy) p) ≡ Some call → call.function ≡ graph.main → ⊥

-- A game that was made: of a valid policy and the graph of a program that doesn't call `main`, over no limit.
pub record IsMade (h : Held) : Type 0 where
  pub valid : IsValid (policy_of h.states.policy)
  pub graph : IsProgramsGraph (policy_of h.states.policy) h.graph
  pub leaves : LeavesMain (policy_of h.states.policy) h.graph
  pub lists : AreLists (uses_of (policy_of h.states.policy) h.graph.nodes.items) (lists_of h.states)
  pub few : AreFew (lists_of h.states)
  pub pairs : length (game_of h).spots * (game_of h).states.count ≤ limit_of PositionsTimesStates
