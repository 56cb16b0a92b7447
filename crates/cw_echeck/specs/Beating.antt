-- What the conditions of a strategy are good for. Public source: the visibly pushdown games of Löding, Madhusudan and Serre (2004).
use Rattle.std.specs.Prelude.{ℕ, ◌<◌, true}
use Rattle.cw_certs.specs.Strategies.{Strategy}
use Rattle.cw_model.specs.Boards.{Problem, start_board, Forced}
use Rattle.cw_model.specs.Plays.{Beats}
use Rattle.cw_game.specs.Games.{Game, IsLost}
use Rattle.cw_game.specs.Pairs.{IsAt}
use Rattle.cw_game.specs.Conditions.{IsGoodStrategy}
use Rattle.cw_game.specs.Closed.{IsClosedStrategy}
use Rattle.cw_game.specs.Standing.{IsGameOf}

-- The strategy's start row: its first one at the position and the state of the start, with an empty aim, so that `main` is not to end.
pub record IsStartRow (g : Game) (s : Strategy) (row : ℕ) : Type 0 where
  pub stands : IsAt s row (g.entry g.main) g.states.start 0
  pub first : (i : ℕ) → i < row → IsAt s i (g.entry g.main) g.states.start 0 → ⊥

-- A strategy that meets the eight conditions has a start row.
abbrev pub GoodStrategiesStart : Type 0
GoodStrategiesStart = (g : Game) (s : Strategy) → IsGoodStrategy g s → (row : ℕ) × IsStartRow g s row

-- From it the strategy beats every weaver, over stacks of any depth.
abbrev pub GoodStrategiesBeat : Type 0
GoodStrategiesBeat = (p : Problem) (g : Game) (s : Strategy) (row : ℕ) → IsGameOf p g → IsGoodStrategy g s → IsStartRow g s row → Beats p s row

-- What that gives of one game and one strategy, for whoever has checked it.
abbrev pub BeatsAll : Game → Strategy → Type 0
BeatsAll g s = (p : Problem) → IsGameOf p g → (row : ℕ) × IsStartRow g s row × Beats p s row

-- The start is lost in the game, all exit states promised.
abbrev pub GoodStrategiesLose : Type 0
GoodStrategiesLose = (p : Problem) (g : Game) (s : Strategy) → IsGameOf p g → IsGoodStrategy g s → IsLost g (g.entry g.main) g.states.start (λ x. true)

-- So the weaver can't avoid a violation of the program, which comes after at most some number of moves.
abbrev pub GoodStrategiesForce : Type 0
GoodStrategiesForce = (p : Problem) (g : Game) (s : Strategy) → IsGameOf p g → IsGoodStrategy g s → (n : ℕ) × Forced p n (start_board p)

-- The same of each strategy whose rows meet the conditions without their ranges, from each row of it at the start with an empty aim.
pub record StartsAt (g : Game) (s : Strategy) (row : ℕ) : Type 0 where
  pub closed : IsClosedStrategy g s
  pub start : IsAt s row (g.entry g.main) g.states.start 0

abbrev pub ClosedStrategiesBeat : Type 0
ClosedStrategiesBeat = (p : Problem) (g : Game) (s : Strategy) (row : ℕ) → IsGameOf p g → StartsAt g s row → Beats p s row

abbrev pub ClosedStrategiesLose : Type 0
ClosedStrategiesLose = (p : Problem) (g : Game) (s : Strategy) (row : ℕ) → IsGameOf p g → StartsAt g s row → IsLost g (g.entry g.main) g.states.start (λ x. true)

abbrev pub ClosedStrategiesForce : Type 0
ClosedStrategiesForce = (p : Problem) (g : Game) (s : Strategy) (row : ℕ) → IsGameOf p g → StartsAt g s row → (n : ℕ) × Forced p n (start_board p)
