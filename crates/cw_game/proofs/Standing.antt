-- A board that stands at a pair that is lost is forced.
use Rattle.std.proofs.Common.{◌≡◌, ℕ, ◌<◌, List, [], true, refl}
use Rattle.cw_model.specs.Boards.{Problem, Board, start_board, Forced}
use Rattle.cw_game.specs.Games.{AreStates, Game, Ret, Config, at_pair, Promise, IsLost}
use Rattle.cw_game.specs.Places.{IsLaidOut, HasRoutines}
use Rattle.cw_game.specs.Standing.{Meaning}
use Rattle.cw_game.proofs.Link.{Stands, state_within, board_moves, forced_board, start_stands}
use Rattle.cw_game.proofs.Necessity.{GoesOn, Owed, is_forced, all_owed}

-- some board stands there
abbrev pub IsStanding : Meaning → Game → Config → Type 0
IsStanding Means g c = (b : Board) × Stands Means g b c

module _ (Means : Meaning) (g : Game) (p : Problem) (e : g.policy ≡ p.policy) (right : AreStates g.policy g.spots g.states Means) (laid : IsLaidOut p.plan g) (has : HasRoutines p.plan g) where
  pub standing_on : GoesOn g (IsStanding Means g)
  standing_on c next by s fine leads = let to = board_moves Means g p.plan right laid has s.0 c next by s.1 fine leads in (to.0, to.2)

  pub state_below : (c : Config) → IsStanding Means g c → c.state < g.states.count
  state_below c s = state_within Means g p.plan right laid has s.0 c s.1

  pub lost_board : (b : Board) (pos q : ℕ) (promised : Promise) (rets : List Ret) → Stands Means g b (at_pair pos q rets) → Owed g (IsStanding Means g) promised rets
      → IsLost g pos q promised → (n : ℕ) × Forced p n b
  lost_board b pos q promised rets h owed lost =
      let k = is_forced g (IsStanding Means g) standing_on pos q promised rets (b, h) owed lost in
      (k.0, forced_board Means g p e right laid has k.0 b (at_pair pos q rets) h k.1)

  -- where the start is lost under all states the start is forced
  pub lost_start : IsLost g (g.entry g.main) g.states.start (λ x. true) → (n : ℕ) × Forced p n (start_board p)
  lost_start lost =
      lost_board (start_board p) (g.entry g.main) g.states.start (λ x. true) [] (start_stands Means g p e right laid has)
      (all_owed g (IsStanding Means g) standing_on state_below (λ x. true) (λ x lt. refl) []) lost
