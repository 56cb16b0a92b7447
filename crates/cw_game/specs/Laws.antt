-- What holds of every game, program and policy.
use Rattle.std.specs.Prelude.{◌≡◌, ℕ, List, true, false, Option, None}
use Rattle.cw_rights.specs.declared.capabilities.Primitive.{Primitive}
use Rattle.cw_certs.specs.Tables.{Table}
use Rattle.cw_certs.specs.Strategies.{Strategy}
use Rattle.cw_certs.specs.declared.moves.Move.{Move}
use Rattle.cw_model.specs.Boards.{Problem}
use Rattle.cw_game.specs.declared.spots.Spot.{Spot}
use Rattle.cw_game.specs.Games.{Game, may_refuse_in, refuses_in, resumed, Ret, leads_in, bad_in, Promise, Holds}
use Rattle.cw_game.specs.Reached.{Reached}
use Rattle.cw_game.specs.Pairs.{IsAt}
use Rattle.cw_game.specs.Closed.{is_closed_table, IsClosedStrategy}
use Rattle.cw_game.specs.Conditions.{IsGoodTable, IsGoodStrategy}
use Rattle.cw_game.specs.Standing.{IsGameOf}
use Rattle.cw_game.specs.Linked.{AreLinkedBy}

-- What links the boards of a program to the pairs of its game, by the least meaning of the states: what the states' own functions lead to.
abbrev pub AreLinked : Problem → Game → Type 0
AreLinked p g = AreLinkedBy (Reached g.policy g.spots g.states) p g

-- The boards of a program are linked to the pairs of each game that is laid out for it.
abbrev pub BoardsAreLinked : Type 0
BoardsAreLinked = (p : Problem) (g : Game) → IsGameOf p g → AreLinked p g

-- the game of the same policy with nothing that may be refused
abbrev pub with_nothing_refusable : Game → Game
with_nothing_refusable g = record g { policy = record g.policy { refuse_limit = false; refuse_enter = false; refuse_split = false } }

pub record IsSameGame (g g2 : Game) : Type 0 where
  pub moves : (p q : ℕ) (rets : List Ret) (spot : Option Spot) (by : Move) → leads_in g p q rets spot by ≡ leads_in g2 p q rets spot by
  pub bad : (q : ℕ) (spot : Option Spot) → bad_in g q spot ≡ bad_in g2 q spot
  pub holds : (n p q : ℕ) (e : Promise) → Holds g n p q e ≡ Holds g2 n p q e

-- Where the policy has a stop the game is that of the same policy with nothing that may be refused.
abbrev pub StopLeavesNothingRefusable : Type 0
StopLeavesNothingRefusable = (g : Game) → g.policy.stop ≡ true → IsSameGame g (with_nothing_refusable g)

-- Where it has none every refusal is a move, and nothing is gone on from.
pub record GoesWithoutStop (g : Game) : Type 0 where
  pub refuses : (q : ℕ) (a : Primitive) → refuses_in g q a ≡ may_refuse_in g q a
  pub never_resumed : (p q : ℕ) → resumed g p q ≡ None

abbrev pub WithoutStop : Type 0
WithoutStop = (g : Game) → g.policy.stop ≡ false → GoesWithoutStop g

-- A table that meets the nine conditions is closed under the game's moves, and so is a strategy that meets the eight: it has a row at the start that
-- aims at no exit state.
abbrev pub GoodTablesAreClosed : Type 0
GoodTablesAreClosed = (g : Game) (t : Table) → IsGoodTable g t → is_closed_table g t ≡ true

abbrev pub GoodStrategiesAreClosed : Type 0
GoodStrategiesAreClosed = (g : Game) (s : Strategy) → IsGoodStrategy g s → IsClosedStrategy g s × ((row : ℕ) × IsAt s row (g.entry g.main) g.states.start 0)
