-- The text of a strategy, and of which strategies there is one.
use Rattle.std.specs.Prelude.{◌≡◌, ℕ, ◌+◌, ◌^◌, ◌<◌, ◌≤◌, List, [], ◌∷◌, ◌++◌, map, length, codes}
use Rattle.std.specs.Fmt.{decimal}
use Rattle.std.specs.List.{All}
use Rattle.cw_core.specs.Quantities.{limit_of}
use Rattle.cw_core.specs.declared.quantity.Quantity.TheVariants.{Rows}
use Rattle.cw_certs.specs.Strategies.{How, Bad, Out, Both, Go, Into, Row, Strategy}
use Rattle.cw_text.specs.Lines.{line, joined, set_text, IsSetIn, states_line, end_line}
use Rattle.cw_text.specs.Moves.{move_name, IsEnvironments}

-- `EXIT=ROW`
abbrev pub back_field : ℕ × ℕ → List ℕ
back_field back = joined 61 (decimal back.0 ∷ decimal back.1 ∷ [])

abbrev pub how_fields : How → List (List ℕ)
how_fields Bad = codes "bad" ∷ []
how_fields Out = codes "out" ∷ []
how_fields (Both skip tried) = codes "both" ∷ decimal skip ∷ decimal tried ∷ []
how_fields (Go by row) = move_name by ∷ decimal row ∷ []
how_fields (Into callee backs) = codes "into" ∷ decimal callee ∷ map back_field backs

-- `NUMBER POSITION STATE AIM HOW`
abbrev pub row_fields : (format number : ℕ) → Row → List (List ℕ)
row_fields format number r = decimal number ∷ decimal r.pos ∷ decimal r.state ∷ set_text format r.aim ∷ how_fields r.how

-- the lines of a strategy's text
unfoldable pub head_line : (format : ℕ) → List ℕ
head_line format = line (codes "capweave strategy " ++ decimal format)

unfoldable pub row_line : (format number : ℕ) → Row → List ℕ
row_line format number r = line (joined 32 (row_fields format number r))

-- a line for each row, numbered from a number on
unfoldable pub row_lines : (format number : ℕ) → List Row → List ℕ
row_lines format number [] = []
row_lines format number (r ∷ rows) = row_line format number r ++ row_lines format (number + 1) rows

unfoldable pub strategy_text : (format : ℕ) → Strategy → List ℕ
strategy_text format s = head_line format ++ (states_line s.states ++ (row_lines format 0 s.rows ++ end_line))

-- The exit states ascend strictly, from a number on. Each number fits its field, here and below: a state 16 bits, a row 32.
abbrev pub AreBacks : (low : ℕ) → List (ℕ × ℕ) → Type 0
AreBacks low [] = Unit {0}
AreBacks low (back ∷ backs) = (low ≤ back.0) × (back.0 < 2 ^ 16) × (back.1 < 2 ^ 32) × AreBacks (back.0 + 1) backs

abbrev pub FitsHow : How → Type 0
FitsHow Bad = Unit {0}
FitsHow Out = Unit {0}
FitsHow (Both skip tried) = (skip < 2 ^ 32) × (tried < 2 ^ 32)
FitsHow (Go by row) = IsEnvironments by × (row < 2 ^ 32)
FitsHow (Into callee backs) = (callee < 2 ^ 32) × AreBacks 0 backs

-- a row whose numbers fit the types of their fields, and whose aim has the states of the format
pub record FitsRow (format : ℕ) (r : Row) : Type 0 where
  pub pos : r.pos < 2 ^ 32
  pub state : r.state < 2 ^ 16
  pub aim : IsSetIn format r.aim
  pub how : FitsHow r.how

-- a row and its backs, as rows are counted
abbrev pub rows_in : How → ℕ
rows_in Bad = 1
rows_in Out = 1
rows_in (Both skip tried) = 1
rows_in (Go by row) = 1
rows_in (Into callee backs) = 1 + length backs

unfoldable pub row_count : List Row → ℕ
row_count [] = 0
row_count (r ∷ rows) = rows_in r.how + row_count rows

-- a strategy that has a text
pub record Fits (format : ℕ) (s : Strategy) : Type 0 where
  pub states : s.states < 2 ^ 16
  pub rows : All (FitsRow format) s.rows
  pub few : row_count s.rows ≤ limit_of Rows

-- the text is that of the strategy
pub record Spells (format : ℕ) (text : List ℕ) (s : Strategy) : Type 0 where
  pub fits : Fits format s
  pub spelled : text ≡ strategy_text format s
