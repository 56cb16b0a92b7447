-- What follows from stop: where the program may stop after a refusal, it is as if nothing were refused.
use Rattle.std.specs.Prelude.{◌≡◌, ℕ, List, true, Option}
use Rattle.cw_rights.specs.Policies.{policy_of}
use Rattle.cw_certs.specs.declared.moves.Move.{Move}
use Rattle.cw_certs.specs.Strategies.{Strategy}
use Rattle.cw_certs.specs.Tables.{Table}
use Rattle.cw_game.specs.declared.spots.Spot.{Spot}
use Rattle.cw_game.specs.Games.{Game, Ret, leads_in, Promise, Holds}
use Rattle.cw_product.specs.Product.{Held, game_of}
use Rattle.cw_solve.specs.declared.contexts.Context.{Context}
use Rattle.cw_solve.specs.Contexts.{IsNeeded}
use Rattle.cw_product.specs.Made.{IsMade}
use Rattle.cw_lazy_table.specs.Lazy.{IsLazyTable}
use Rattle.cw_lazy_table.specs.Laws.{CanBegin}
use Rattle.cw_lazy_table.specs.Live.{IsLive}
use Rattle.cw_least_strategy.specs.Strategies.{IsLeastStrategy}
use Rattle.cw_consequences.specs.Unrefused.{unrefused, unrefused_game}

-- The game of the same program and the same policy, but that nothing can be refused, is the game but for that.
abbrev pub GameIsUnrefused : Type 0
GameIsUnrefused = (h k : Held) → IsMade h → IsMade k → k.graph ≡ h.graph → policy_of k.states.policy ≡ unrefused (policy_of h.states.policy)
    → game_of k ≡ unrefused_game (game_of h)

-- games with the same moves, heights and needed contexts
pub record ArePlayedAlike (g h : Game) : Type 0 where
  pub moves : (p q : ℕ) (rets : List Ret) (s : Option Spot) (by : Move) → leads_in g p q rets s by ≡ leads_in h p q rets s by
  pub holds : (n p q : ℕ) (e : Promise) → Holds g n p q e ≡ Holds h n p q e
  pub needed : (c : Context) → (IsNeeded g c → IsNeeded h c) × (IsNeeded h c → IsNeeded g c)

abbrev pub StopKeepsTheGame : Type 0
StopKeepsTheGame = (g : Game) → g.policy.stop ≡ true → ArePlayedAlike g (unrefused_game g)

-- what is live, and the lazy table
abbrev pub StopKeepsTheTable : Type 0
StopKeepsTheTable = (g : Game) (functions : ℕ) → g.policy.stop ≡ true → CanBegin g functions
    → ((p q e : ℕ) → (IsLive g p q e → IsLive (unrefused_game g) p q e) × (IsLive (unrefused_game g) p q e → IsLive g p q e))
    × ((t : Table) → (IsLazyTable g t → IsLazyTable (unrefused_game g) t) × (IsLazyTable (unrefused_game g) t → IsLazyTable g t))

abbrev pub StopKeepsTheStrategy : Type 0
StopKeepsTheStrategy = (g : Game) → g.policy.stop ≡ true
    → (s : Strategy) → (IsLeastStrategy g s → IsLeastStrategy (unrefused_game g) s) × (IsLeastStrategy (unrefused_game g) s → IsLeastStrategy g s)
