-- What a play keeps as it goes over the game: where its board stands, what is owed to the open calls, and what was played so far.
use Rattle.std.proofs.Common.{◌≡◌, ℕ, ◌<◌, List, [], ◌∷◌, ◌++◌, true, Some, map, length}
use Rattle.std.specs.Prelude.{slice_get}
use Rattle.cw_rights.specs.declared.capabilities.Caps.{Caps}
use Rattle.cw_rights.specs.Words.{Word}
use Rattle.cw_certs.specs.declared.moves.Move.{Move}
use Rattle.cw_certs.specs.Strategies.{Row, Strategy, back_of}
use Rattle.cw_dfa.specs.Verdicts.{IsVerdict, verdict}
use Rattle.cw_syntax.specs.Plans.{Plan}
use Rattle.cw_model.specs.Boards.{Board, start_board}
use Rattle.cw_game.specs.Games.{Game, Ret, Config, at_pair, returned, letter_of}
use Rattle.cw_game.specs.Pairs.{has, IsAt}
use Rattle.cw_game.specs.Reached.{Reached}
use Rattle.cw_game.specs.Standing.{IsGameOf}
use Rattle.cw_game.proofs.Link.{Stands}
use Rattle.cw_echeck.proofs.Boards.{problem_in}
use Rattle.cw_states.specs.States.{Lists, caps_at, set_after}
use Rattle.cw_trace.specs.Traces.{Names, Taken, trace, board_after}
use Rattle.cw_play.specs.declared.end.PlayEnd.{PlayEnd}
use Rattle.cw_play.specs.Plays.{Stand, Plays, IsPlayBy}
use Rattle.cw_play.specs.Rows.{backs_in, backs_at}

-- The lists tell of each state that is reached its capabilities, and which rule is broken by a letter more.
pub record Tells (g : Game) (v : Lists) : Type 0 where
  pub caps : (q : ℕ) (w : Word) (c : Caps) → Reached g.policy g.spots g.states q w c → c ≡ caps_at v q
  pub rule : (q : ℕ) (w : Word) (c : Caps) (label : ℕ) → Reached g.policy g.spots g.states q w c
      → IsVerdict g.policy.rules (w ++ letter_of label c ∷ []) (verdict g.policy.rules 0 1 (set_after v q label))

-- the rows' numbers are in range
pub record IsInRange (g : Game) (s : Strategy) : Type 0 where
  pub pos : (i : ℕ) (r : Row) → slice_get s.rows i ≡ Some r → r.pos < length g.spots
  pub state : (i : ℕ) (r : Row) → slice_get s.rows i ≡ Some r → r.state < g.states.count

-- each exit state of the aim has its row among the backs of the caller: it stands where the call returns, with the caller's aim
abbrev pub Covers : Game → Strategy → (aim : ℕ) → Ret → (caller outer : ℕ) → List (ℕ × ℕ) → Type 0
Covers g s aim ret caller outer backs =
    (x : ℕ) → x < g.states.count → has aim x ≡ true → (b : ℕ) × (back_of backs x ≡ Some b) × (b < caller) × IsAt s b ret.back (returned g.states ret.kept x) outer

-- So it is of each open call and the aim of the rows above it; over none the aim is empty.
abbrev pub Owed : Game → Strategy → (aim : ℕ) → List Ret → List ℕ → Type 0
Owed g s aim [] [] = aim ≡ 0
Owed g s aim (ret ∷ rets) (caller ∷ calls) = (r : Row) × (slice_get s.rows caller ≡ Some r) × Covers g s aim ret caller r.aim (backs_in r.how) × Owed g s r.aim rets calls
Owed g s aim _ _ = ⊥

abbrev pub stand : Strategy → ℕ → Board → List ℕ → Stand
stand s at board calls = record { row = at; board = board; waiting = map (backs_at s) calls }

-- The moves so far, with their trace behind the old text; whatever play goes on from here is the end of the whole.
pub record Sofar (g : Game) (names : Names) (plan : Plan) (s : Strategy) (first : ℕ) (tape : List Move) (old text : List ℕ) (c : Config) (at : ℕ) (calls : List ℕ) (rest : List Move) : Type 0 where
  pub board : Board
  pub stands : Stands (Reached g.policy g.spots g.states) g board c
  pub steps : List Taken
  pub last : board_after (start_board (problem_in plan g)) steps ≡ board
  pub told : text ≡ old ++ trace names (problem_in plan g) steps
  pub goes : (end : PlayEnd) (later : List Taken) → Plays (problem_in plan g) s (stand s at board calls) rest end later → IsPlayBy (problem_in plan g) s first tape end (steps ++ later)

pub record Kept (g : Game) (v : Lists) (names : Names) (s : Strategy) (first : ℕ) (tape : List Move) (old text : List ℕ) (at : ℕ) (calls : List ℕ) (rest : List Move) : Type 0 where
  pub pos : ℕ
  pub state : ℕ
  pub aim : ℕ
  pub rets : List Ret
  pub stands : IsAt s at pos state aim
  pub owed : Owed g s aim rets calls
  pub sofar : (plan : Plan) → IsGameOf (problem_in plan g) g → Tells g v → Sofar g names plan s first tape old text (at_pair pos state rets) at calls rest
