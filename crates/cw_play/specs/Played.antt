-- What the code promises of a play.
use Rattle.std.specs.Prelude.{◌≡◌, ℕ, List, ◌++◌}
use Rattle.cw_certs.specs.declared.moves.Move.{Move}
use Rattle.cw_certs.specs.Strategies.{Strategy}
use Rattle.cw_model.specs.Boards.{Problem}
use Rattle.cw_game.specs.Games.{Game}
use Rattle.cw_echeck.specs.Beating.{IsStartRow}
use Rattle.cw_trace.specs.Traces.{Names, Taken, trace}
use Rattle.cw_play.specs.declared.end.PlayEnd.{PlayEnd}
use Rattle.cw_play.specs.Plays.{IsPlayBy}

-- There is a play by the tape from the start row, with this end, and its trace stands behind the old text.
pub record IsPlayed (names : Names) (p : Problem) (g : Game) (s : Strategy) (tape : List Move) (end : PlayEnd) (old new : List ℕ) : Type 0 where
  pub row : ℕ
  pub start : IsStartRow g s row
  pub steps : List Taken
  pub play : IsPlayBy p s row tape end steps
  pub told : new ≡ old ++ trace names p steps
