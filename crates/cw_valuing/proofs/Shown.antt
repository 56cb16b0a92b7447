-- A run over values is told, for a program.
use Rattle.std.proofs.Common.{ℕ, List, refl, ⊎_elim, inl, inr}
use Rattle.cw_rights.specs.Policies.{PlainPolicy}
use Rattle.cw_syntax.specs.Trees.{File}
use Rattle.cw_certs.specs.Tables.{Table}
use Rattle.cw_game.specs.Games.{Game}
use Rattle.cw_game.specs.Conditions.{table_fault}
use Rattle.cw_value.specs.Shown.{Answers}
use Rattle.cw_commands.specs.Outcomes.{Due}
use Rattle.cw_stages.proofs.Checks.{failing}
use Rattle.cw_valuing.specs.Held.{IsValuesShownBy}
use Rattle.cw_valuing.specs.Valuing.{IsValuesShown}

pub values_shown_for : (source : List ℕ) (whole : PlainPolicy) (file : File) (t : Table) (a : Answers) (g : Game) (due : Due) → IsValuesShownBy source whole file t a g due
    → IsValuesShown source whole file t a g due
values_shown_for source whole file t a g due h = ⊎_elim (λ x. inl x) (λ b. inr (failing g t due b.0 b.2 (table_fault g t) refl b.1)) h
