-- The first line that doesn't fit of a text that is none of steps.
use Rattle.std.specs.Prelude.{ℕ, List, Result, Ok, Err}
use Rattle.std.specs.List.{All}
use Rattle.cw_text_lines.specs.Lines.{IsFirstOther}
use Rattle.cw_steps.specs.declared.step.Step.{Step}
use Rattle.cw_steps.specs.declared.fault.StepsFault.{StepsFault}
use Rattle.cw_steps.specs.declared.fault.StepsFault.TheVariants.{Line, NoMemory}
use Rattle.cw_steps.specs.Steps.{step_fields, FitsStep, Spells}

abbrev pub IsFault : (text : List ℕ) → (number : ℕ) → Type 0
IsFault text number = IsFirstOther (All FitsStep) step_fields text number

-- why a reader has no steps to give: a line, or want of memory
abbrev pub IsCause : (text : List ℕ) → StepsFault → Type 0
IsCause text (Line number) = IsFault text number
IsCause text NoMemory = Unit {0}

-- what a text is: that of these steps, or one whose first line that doesn't fit has this number
abbrev pub IsAnswer : (text : List ℕ) → Result (List Step) StepsFault → Type 0
IsAnswer text (Ok steps) = Spells text steps
IsAnswer text (Err (Line number)) = IsFault text number
IsAnswer text (Err NoMemory) = ⊥
