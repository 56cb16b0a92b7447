-- Working definitions, for proofs and contracts inside: the keys that a strategy names.
use Rattle.std.specs.Prelude.{ℕ, ◌<◌, ◌^◌, List, length}
use Rattle.std.specs.List.{Contains}
use Rattle.cw_game.specs.Games.{Game}
use Rattle.cw_product.specs.Routed.{AreRouted, IsOf}
use Rattle.cw_solve.specs.Contexts.{context, IsHeight, IsNeeded}
use Rattle.cw_least_strategy.specs.declared.key.Key.{Key}
use Rattle.cw_least_strategy.specs.Heights.{others}
use Rattle.cw_least_strategy.specs.Strategies.{named}
use Rattle.cw_product.specs.Product.{game_of}
use Rattle.cw_solve.specs.Solved.{Held}

-- a pair of a function in a needed context, with its height
pub record IsKey (g : Game) (functions : ℕ) (k : Key) : Type 0 where
  pub function : ℕ
  pub there : function < functions
  pub of : IsOf g function k.pos
  pub state : k.state < g.states.count
  pub needed : IsNeeded g (context function (others g k.aim))
  pub height : IsHeight g k.pos k.state (others g k.aim) k.height
  pub aim : k.aim < 2 ^ g.states.count

-- from the one by steps to the other
pub data Leads {K : Type 0} (step : K → List K) : K → K → Type 0 where
  here : (k : K) → Leads step k k
  on : (a b c : K) → Contains (step a) b → Leads step b c → Leads step a c

-- all that is named from a key on are keys
pub record IsFollowed (h : Held) (k : Key) : Type 0 where
  pub routed : AreRouted (game_of h.game) (length h.game.graph.parts.items)
  pub keys : (b : Key) → Leads (named (game_of h.game)) k b → IsKey (game_of h.game) (length h.game.graph.parts.items) b

pub follows : (h : Held) (k q : Key) → IsFollowed h k → Contains (named (game_of h.game) k) q → IsFollowed h q
follows h k q f i = record { routed = f.routed; keys = λ b l. f.keys b (on k q b i l) }
