-- What is told of a table, for a program.
use Rattle.std.proofs.Common.{◌≤◌, length, refl, ⊎_elim, inl, inr}
use Rattle.cw_certs.specs.Tables.{Table}
use Rattle.cw_model.specs.Boards.{Problem}
use Rattle.cw_game.specs.Games.{Game}
use Rattle.cw_game.specs.Conditions.{table_fault}
use Rattle.cw_game.specs.Standing.{IsGameOf}
use Rattle.cw_commands.specs.Outcomes.{Due}
use Rattle.cw_stages.proofs.Checks.{failing}
use Rattle.cw_checking.specs.Checking.{IsChecked}
use Rattle.cw_checking.specs.CheckingHeld.{IsCheckedBy}

module _ (p : Problem) (g : Game) (t : Table) (due : Due) where
  pub checked_for : IsGameOf p g → length p.policy.limits ≤ 12 → IsCheckedBy g t due → IsChecked p g t due
  checked_for is few h =
      ⊎_elim (λ a. inl (a.0, a.1, a.2 p is few)) (λ b. inr (failing g t due b.0 b.2 (table_fault g t) refl b.1)) h
