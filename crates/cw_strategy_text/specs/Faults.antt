-- The first line at fault of a text that is no strategy's.
use Rattle.std.specs.Prelude.{◌≡◌, ◌≢◌, ℕ, ◌+◌, ◌^◌, ◌<◌, List, [], ◌++◌, length, Result, Ok, Err}
use Rattle.cw_core.specs.Quantities.{limit_of}
use Rattle.cw_core.specs.declared.quantity.Quantity.TheVariants.{Rows}
use Rattle.cw_certs.specs.Strategies.{Row, Strategy}
use Rattle.cw_text.specs.declared.fault.TextFault.{TextFault}
use Rattle.cw_text.specs.declared.fault.TextFault.TheVariants.{Line, Order, Limit, NoMemory}
use Rattle.cw_text.specs.Lines.{states_line, end_line}
use Rattle.cw_strategy_text.specs.StrategyText.{head_line, row_line, row_lines, rows_in, row_count, FitsRow, Fits, Spells}

-- the first lines of the text are those of a strategy up to so many of its rows, and this is the rest of the text
pub record Begins (format : ℕ) (text : List ℕ) (states : ℕ) (rows : List Row) (rest : List ℕ) : Type 0 where
  pub fits : Fits format (record { states = states; rows = rows })
  pub spelled : text ≡ head_line format ++ (states_line states ++ (row_lines format 0 rows ++ rest))

-- the text begins with the line of a row, under some number
pub record HasRow (format : ℕ) (text : List ℕ) (number : ℕ) (row : Row) (rest : List ℕ) : Type 0 where
  pub small : number < 2 ^ 32
  pub fits : FitsRow format row
  pub spelled : text ≡ row_line format number row ++ rest

-- Lines are numbered from 1: the head, the states, the row of number 0. In one line Line comes before Order, and that before Limit.
pub data IsFault (format : ℕ) (text : List ℕ) : TextFault → Type 0 where
  -- the text doesn't begin with the head of its format
  no_head : ((rest : List ℕ) → text ≢ head_line format ++ rest) → IsFault format text (Line 1)
  -- what follows is no line of states
  no_states : (rest : List ℕ) → text ≡ head_line format ++ rest → ((states : ℕ) (more : List ℕ) → states < 2 ^ 16 → rest ≢ states_line states ++ more)
      → IsFault format text (Line 2)
  -- what follows the first rows is neither the end nor the line of a row
  no_row : (states : ℕ) (rows : List Row) (rest : List ℕ) → Begins format text states rows rest → ((more : List ℕ) → rest ≢ end_line ++ more)
      → ((number : ℕ) (row : Row) (more : List ℕ) → HasRow format rest number row more → ⊥) → IsFault format text (Line (length rows + 3))
  -- something follows the end
  no_end : (states : ℕ) (rows : List Row) (rest more : List ℕ) → Begins format text states rows rest → rest ≡ end_line ++ more → more ≢ []
      → IsFault format text (Line (length rows + 4))
  -- the row isn't the next
  no_order : (states : ℕ) (rows : List Row) (rest : List ℕ) (number : ℕ) (row : Row) (more : List ℕ) → Begins format text states rows rest
      → HasRow format rest number row more → number ≢ length rows → IsFault format text (Order (length rows + 3))
  -- the row is the next, and with it and its backs the rows are too many
  no_room : (states : ℕ) (rows : List Row) (rest : List ℕ) (number : ℕ) (row : Row) (more : List ℕ) → Begins format text states rows rest
      → HasRow format rest number row more → number ≡ length rows → limit_of Rows < row_count rows + rows_in row.how → IsFault format text (Limit (length rows + 3))

-- why a reader has no strategy to give: the fault of the text, or want of memory
abbrev pub IsCause : (format : ℕ) (text : List ℕ) → TextFault → Type 0
IsCause format text NoMemory = Unit {0}
IsCause format text fault = IsFault format text fault

-- what a text is: that of a strategy, or one with a fault
abbrev pub IsAnswer : (format : ℕ) (text : List ℕ) → Result Strategy TextFault → Type 0
IsAnswer format text (Ok s) = Spells format text s
IsAnswer format text (Err fault) = IsFault format text fault
