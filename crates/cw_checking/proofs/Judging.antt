-- The judgement of a strategy, for a program.
use Rattle.std.proofs.Common.{◌≡◌, List, ⊎_elim, inl, inr}
use Rattle.cw_certs.specs.Strategies.{Strategy}
use Rattle.cw_model.specs.Boards.{Problem}
use Rattle.cw_game.specs.Games.{Game}
use Rattle.cw_game.specs.Standing.{IsGameOf}
use Rattle.cw_commands.specs.Outcomes.{Due}
use Rattle.cw_checking.specs.Refuting.{IsJudged, IsJudgedBy}

pub judged_for : (p : Problem) (g : Game) (s : Strategy) (due : Due) → IsGameOf p g → IsJudgedBy g s due → IsJudged p g s due
judged_for p g s due is h = ⊎_elim (λ a. inl (a.0, a.1, a.2 p is)) (λ b. inr b) h
