-- What a made game gives the strategy.
use Rattle.std.proofs.Common.{length}
use Rattle.cw_rights.specs.Policies.{policy_of}
use Rattle.cw_states.specs.States.{lists_of}
use Rattle.cw_states.proofs.Below.{stay_below}
use Rattle.cw_product.specs.Product.{Held, game_of}
use Rattle.cw_product.specs.Uses.{uses_of}
use Rattle.cw_product.specs.Made.{IsMade}
use Rattle.cw_product.specs.Routed.{IsState}
use Rattle.cw_solve.proofs.Routing.{routed_of}
use Rattle.cw_least_strategy.specs.Laws.{LeastAreGood}
use Rattle.cw_least_strategy.specs.There.{LeastStrategyIsThere}
use Rattle.cw_least_strategy.proofs.Existing.{strategy_there}
use Rattle.cw_least_strategy.proofs.Good.{least_good}

pub start_state : (h : Held) → IsMade h → IsState (game_of h) (game_of h).states.start
start_state h made = (stay_below (uses_of (policy_of h.states.policy) h.graph.nodes.items) (lists_of h.states) made.lists).start

pub made_good : LeastAreGood
made_good h made s is = least_good (game_of h) (length h.graph.parts.items) (routed_of h made) s is (start_state h made)

pub made_there : LeastStrategyIsThere
made_there h made n is = strategy_there (game_of h) (length h.graph.parts.items) (routed_of h made) (start_state h made) n is
