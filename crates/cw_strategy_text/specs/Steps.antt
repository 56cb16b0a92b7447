-- Working definitions, for proofs and the contracts of code alone: what the next line of a strategy's text is, after so many rows.
use Rattle.std.specs.Prelude.{◌≡◌, ◌≢◌, ℕ, ◌+◌, ◌<◌, List, [], ◌++◌, ◌⊎◌}
use Rattle.cw_core.specs.Quantities.{limit_of}
use Rattle.cw_core.specs.declared.quantity.Quantity.TheVariants.{Rows}
use Rattle.cw_certs.specs.Strategies.{Row}
use Rattle.cw_text.specs.declared.fault.TextFault.{TextFault}
use Rattle.cw_text.specs.declared.fault.TextFault.TheVariants.{Line, Order, Limit, NoMemory}
use Rattle.cw_text.specs.Lines.{end_line}
use Rattle.cw_strategy_text.specs.StrategyText.{rows_in}
use Rattle.cw_strategy_text.specs.Faults.{HasRow}

-- neither the end nor the line of a row
pub record HasNone (format : ℕ) (rest : List ℕ) : Type 0 where
  pub over : (more : List ℕ) → rest ≢ end_line ++ more
  pub row : (number : ℕ) (row : Row) (more : List ℕ) → HasRow format rest number row more → ⊥

-- the end, and something after it
pub record HasMore (rest : List ℕ) : Type 0 where
  pub more : List ℕ
  pub text : rest ≡ end_line ++ more
  pub some : more ≢ []

-- a row that isn't the next
pub record HasAnother (format : ℕ) (rest : List ℕ) (count : ℕ) : Type 0 where
  pub number : ℕ
  pub row : Row
  pub more : List ℕ
  pub stands : HasRow format rest number row more
  pub differs : number ≢ count

-- the next row, and too many rows with it
pub record HasTooMany (format : ℕ) (rest : List ℕ) (count rows : ℕ) : Type 0 where
  pub row : Row
  pub more : List ℕ
  pub stands : HasRow format rest count row more
  pub many : limit_of Rows < rows + rows_in row.how

-- the fault of the rest of a text, after the lines of `count` rows, which are `rows` with their backs
abbrev pub IsStepFault : (format : ℕ) (rest : List ℕ) (count rows : ℕ) → TextFault → Type 0
IsStepFault format rest count rows (Line n) = ((n ≡ count + 3) × HasNone format rest) ⊎ ((n ≡ count + 4) × HasMore rest)
IsStepFault format rest count rows (Order n) = (n ≡ count + 3) × HasAnother format rest count
IsStepFault format rest count rows (Limit n) = (n ≡ count + 3) × HasTooMany format rest count rows
IsStepFault format rest count rows NoMemory = Unit {0}
