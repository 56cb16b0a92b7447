-- The strategy of the environment: rows that name the rows that come next.
use Rattle.std.specs.Prelude.{ℕ, List, Option, option_map, find, map, nat_eq}
use Rattle.cw_certs.specs.declared.moves.Move.{Move}
use Rattle.cw_certs.specs.declared.strategy.How.{How as HowData}
use Rattle.cw_certs.specs.declared.strategy.How.TheVariants.{Bad as BadData, Out as OutData, Both as BothData, Go as GoData, Into as IntoData}
use Rattle.cw_certs.specs.declared.strategy.EnvRow.{EnvRow}
use Rattle.cw_certs.specs.declared.strategy.EnvCert.{EnvCert}

-- What a row does: the policy is violated here; the frame ends; the weaver moves, a row for each of its moves; the environment
-- makes a move; a function is called, a row for its body and one for each state in which it may end.
pub data How : Type 0 where
  Bad : How
  Out : How
  Both : (skip tried : ℕ) → How
  Go : (by : Move) → (row : ℕ) → How
  Into : (callee : ℕ) → (backs : List (ℕ × ℕ)) → How

-- The position and the state at which the row stands, the exit states that the strategy aims at in this frame, as the sum of their powers of two.
pub record Row : Type 0 where
  pub pos : ℕ
  pub state : ℕ
  pub aim : ℕ
  pub how : How

-- How many states the game has, and the rows, which name one another by their numbers.
pub record Strategy : Type 0 where
  pub states : ℕ
  pub rows : List Row

-- the row that a list of backs has for an exit state
abbrev pub back_of : List (ℕ × ℕ) → ℕ → Option ℕ
back_of backs exit = option_map (λ b. b.1) (find (λ b. nat_eq b.0 exit) backs)

-- what the program's data stand for
abbrev pub how_of : HowData → How
how_of BadData = Bad
how_of OutData = Out
how_of (BothData skip tried) = Both skip tried
how_of (GoData by row) = Go by row
how_of (IntoData callee backs) = Into callee (map (λ b. (b.0.0, b.1)) backs.items)

abbrev pub row_of : EnvRow → Row
row_of r = record { pos = r.pos.0; state = r.state.0; aim = r.aim; how = how_of r.how }

abbrev pub strategy_of : EnvCert → Strategy
strategy_of c = record { states = c.states; rows = map row_of c.rows.items }
