-- A strategy is read as a file of a command: why one is refused, and what is told of its rows.
use Rattle.std.specs.Prelude.{◌≡◌, ◌⊎◌, ℕ, List, [], ◌∷◌, ◌++◌, codes}
use Rattle.std.specs.Fmt.{decimal}
use Rattle.cw_core.specs.declared.quantity.Quantity.TheVariants.{Rows}
use Rattle.cw_certs.specs.Strategies.{Strategy}
use Rattle.cw_model.specs.Boards.{Problem}
use Rattle.cw_model.specs.Plays.{Beats}
use Rattle.cw_game.specs.Games.{Game}
use Rattle.cw_game.specs.Conditions.{RowFault}
use Rattle.cw_echeck.specs.Beating.{IsStartRow}
use Rattle.cw_text.specs.declared.fault.TextFault.{TextFault}
use Rattle.cw_text.specs.declared.fault.TextFault.TheVariants as fault
use Rattle.cw_strategy_text.specs.Faults.{IsFault}
use Rattle.cw_strategy_text.specs.StrategyText.{Spells}
use Rattle.cw_commands.specs.declared.outcome.Cause.TheVariants.{Grammar}
use Rattle.cw_commands.specs.Outcomes.{Due, Refused}
use Rattle.cw_stages.specs.Refusals.{over}

-- the refusal by the first fault of a strategy's text; where its rows are too many that is a limit
abbrev pub strategy_refusal : TextFault → Due
strategy_refusal (fault.Line n) = Refused Grammar (codes "strategy: line " ++ decimal n)
strategy_refusal (fault.Order n) = Refused Grammar (codes "strategy: order " ++ decimal n)
strategy_refusal (fault.Limit n) = over Rows
strategy_refusal fault.NoMemory = Refused Grammar (codes "memory")

abbrev pub IsStrategyRefusal : (format : ℕ) → List ℕ → Due → Type 0
IsStrategyRefusal format text due = (f : TextFault) × IsFault format text f × (due ≡ strategy_refusal f)

-- That the text spells no strategy in this format, or what comes next for the one that it spells.
abbrev pub WithStrategy : (Strategy → Due → Type 0) → (format : ℕ) → (text : List ℕ) → Due → Type 0
WithStrategy Next format text due = IsStrategyRefusal format text due ⊎ ((s : Strategy) × Spells format text s × Next s due)

-- what is told of the first row that fails a condition
abbrev pub told : RowFault → List ℕ
told f = codes "row " ++ decimal f.row ++ (codes " condition " ++ decimal f.condition) ++ (10 ∷ [])

-- from its start row the strategy beats every weaver of the program
abbrev pub Wins : Problem → Game → Strategy → Type 0
Wins p g s = (row : ℕ) × IsStartRow g s row × Beats p s row
