-- The link of boards and pairs, by a meaning of the states: whatever it takes a state to stand for, where the states are the policy's by it.
use Rattle.std.specs.Prelude.{◌≡◌, ℕ, List, [], ◌∷◌, Bool, true, false, Option, Some, None, is_some, slice_get}
use Rattle.cw_rights.specs.declared.capabilities.Primitive.{Primitive}
use Rattle.cw_certs.specs.declared.moves.Move.{Move}
use Rattle.cw_certs.specs.declared.moves.Move.TheVariants.{Skip, On}
use Rattle.cw_model.specs.Boards.{Problem, Asked, Over, Board, start_board, Violates, can_stop, stop_answers, is_refused, Moves}
use Rattle.cw_game.specs.declared.spots.Spot.{Spot}
use Rattle.cw_game.specs.declared.spots.Spot.TheVariants.{Exit}
use Rattle.cw_game.specs.Games.{AreStates, Game, resumed, returned, Ret, Config, at_pair, bad_in, leads_to}
use Rattle.cw_game.specs.Pairs.{Called, call_in, kept_at}
use Rattle.cw_game.specs.Places.{IsLaidOut, HasRoutines}
use Rattle.cw_game.specs.Standing.{Meaning, standing, StandsBy}

abbrev pub spot_at : Game → Config → Option Spot
spot_at g c = slice_get g.spots c.pos

abbrev pub is_bad_at : Game → Config → Bool
is_bad_at g c = bad_in g c.state (spot_at g c)

-- the end of `main`: no return waits
abbrev pub IsLastEnd : Game → Config → Type 0
IsLastEnd g c = (f : ℕ) × (spot_at g c ≡ Some (Exit f)) × (c.rets ≡ [])

-- The game is that of this program and policy by this meaning: its states are the policy's, and each function stands where the game says.
pub record IsGameBy (Means : Meaning) (p : Problem) (g : Game) : Type 0 where
  pub policy : g.policy ≡ p.policy
  pub states : AreStates g.policy g.spots g.states Means
  pub laid : IsLaidOut p.plan g
  pub routines : HasRoutines p.plan g

-- A move is the board's exactly where it is the pair's. The next board isn't in Refused, and stands at the next pair.
pub record TiedBy (Means : Meaning) (p : Problem) (g : Game) (b : Board) (c : Config) (by : Move) : Type 0 where
  pub to_pair : (next : Board) → Moves p b by next → (d : Config) × (leads_to g c by ≡ Some d) × StandsBy Means g next d × (is_refused next.phase ≡ false)
  pub to_board : (d : Config) → leads_to g c by ≡ Some d → (next : Board) × Moves p b by next × StandsBy Means g next d × (is_refused next.phase ≡ false)

-- What links the boards of a program to the pairs of its game.
pub record AreLinkedBy (Means : Meaning) (p : Problem) (g : Game) : Type 0 where
  -- the start stands at the entry of `main` with the start state
  pub starts : StandsBy Means g (start_board p) (at_pair (g.entry g.main) g.states.start [])
  -- a board violates exactly where its pair is bad
  pub violates : (b : Board) (c : Config) → StandsBy Means g b c → Violates p b → is_bad_at g c ≡ true
  pub is_bad : (b : Board) (c : Config) → StandsBy Means g b c → is_bad_at g c ≡ true → Violates p b
  -- at a board that isn't in Refused, whose pair isn't bad, each move is the pair's, but for a refusal that a stop can answer
  pub moves : (b : Board) (c : Config) (by : Move) → StandsBy Means g b c → is_refused b.phase ≡ false → is_bad_at g c ≡ false
      → (IsLastEnd g c → ⊥) → stop_answers p.policy b.caps b.phase by ≡ false → TiedBy Means p g b c by
  -- a refusal that a stop can answer is no move of the pair; the board after it is in Refused, and stands where it was asked
  pub stops_at : (b : Board) (c : Config) (by : Move) → StandsBy Means g b c → stop_answers p.policy b.caps b.phase by ≡ true
      → (leads_to g c by ≡ None) × ((next : Board) → Moves p b by next → StandsBy Means g next c × (is_refused next.phase ≡ true))
  -- at a call the one move leads to the entry of the function with the same state
  pub calls : (b : Board) (c : Config) (call : Called) (by : Move) (next : Board) → StandsBy Means g b c → is_refused b.phase ≡ false
      → call_in (spot_at g c) ≡ Some call → Moves p b by next
      → (by ≡ On) × StandsBy Means g next (at_pair (g.entry call.function) c.state (record { back = call.back; kept = kept_at call.split c.state } ∷ c.rets))
  -- at the end of a function that was called the one move leads to the position after the call, with the state after the return
  pub returns : (b : Board) (pos state f : ℕ) (ret : Ret) (rets : List Ret) (by : Move) (next : Board)
      → StandsBy Means g b (at_pair pos state (ret ∷ rets)) → is_refused b.phase ≡ false → slice_get g.spots pos ≡ Some (Exit f) → Moves p b by next
      → (by ≡ On) × StandsBy Means g next (at_pair ret.back (returned g.states ret.kept state) rets)
  -- at the end of `main` there is one move, On, after which all is over
  pub ends : (b : Board) (c : Config) (by : Move) (next : Board) → StandsBy Means g b c → is_refused b.phase ≡ false → IsLastEnd g c → Moves p b by next
      → (by ≡ On) × (next.phase ≡ Over)
  pub ends_on : (b : Board) (c : Config) → StandsBy Means g b c → is_refused b.phase ≡ false → IsLastEnd g c → (next : Board) × Moves p b On next × (next.phase ≡ Over)
  -- `resumed` gives a pair exactly where a stop can answer the refusal of what is asked
  pub resumes : (b : Board) (c : Config) (stage : ℕ) (a : Primitive) (later : List Primitive) → StandsBy Means g b c
      → standing b.phase ≡ Asked stage a later → is_some (resumed g c.pos c.state) ≡ can_stop p.policy b.caps a
  -- from a board in Refused a skip leads to that pair
  pub goes_on : (b : Board) (c : Config) (pair : ℕ × ℕ) (next : Board) → StandsBy Means g b c → is_refused b.phase ≡ true
      → resumed g c.pos c.state ≡ Some pair → Moves p b Skip next → StandsBy Means g next (at_pair pair.0 pair.1 c.rets)

-- The boards of a program are linked to the pairs of each game that is laid out for it.
abbrev pub BoardsAreLinkedBy : Meaning → Type 0
BoardsAreLinkedBy Means = (p : Problem) (g : Game) → IsGameBy Means p g → AreLinkedBy Means p g
