-- Boards and pairs that go together: both from the start on, each move of a board beside the same move of its pair.
use Rattle.std.specs.Prelude.{◌≡◌, ◌⊎◌, ℕ, [], true, Some}
use Rattle.cw_certs.specs.declared.moves.Move.{Move}
use Rattle.cw_certs.specs.declared.moves.Move.TheVariants.{Skip}
use Rattle.cw_model.specs.Boards.{Problem, Over, Board, start_board, stop_answers, is_refused, Moves}
use Rattle.cw_game.specs.Games.{Game, resumed, Config, at_pair, leads_to}
use Rattle.cw_game.specs.Standing.{IsGameOf, StandsAt}

pub data Together (p : Problem) (g : Game) : Board → Config → Type 0 where
  at_start : Together p g (start_board p) (at_pair (g.entry g.main) g.states.start [])
  by_move : (b : Board) (c : Config) (by : Move) (next : Board) (d : Config) → Together p g b c → Moves p b by next → leads_to g c by ≡ Some d → Together p g next d
  -- a refusal that a stop can answer is no move of the pair: the board waits there in Refused
  by_refusal : (b : Board) (c : Config) (by : Move) (next : Board) → Together p g b c → stop_answers p.policy b.caps b.phase by ≡ true → Moves p b by next → Together p g next c
  -- and goes on from there
  by_going_on : (b : Board) (c : Config) (pair : ℕ × ℕ) (next : Board) → Together p g b c → is_refused b.phase ≡ true → resumed g c.pos c.state ≡ Some pair → Moves p b Skip next
      → Together p g next (at_pair pair.0 pair.1 c.rets)

-- A board stands at the pair with which it goes together, and each board that comes of the start by moves has such a pair, until all is over.
pub record GoTogether (p : Problem) (g : Game) : Type 0 where
  pub stands : (b : Board) (c : Config) → Together p g b c → StandsAt g b c
  pub goes : (b : Board) (c : Config) (by : Move) (next : Board) → Together p g b c → Moves p b by next → (next.phase ≡ Over) ⊎ ((d : Config) × Together p g next d)

abbrev pub BoardsGoTogether : Type 0
BoardsGoTogether = (p : Problem) (g : Game) → IsGameOf p g → GoTogether p g
