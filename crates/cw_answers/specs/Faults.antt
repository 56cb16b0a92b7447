-- The first line that doesn't fit of a text that is none of answers.
use Rattle.std.specs.Prelude.{◌≡◌, ℕ, List, Result, Ok, Err}
use Rattle.cw_text_lines.specs.Lines.{IsFirstOther}
use Rattle.cw_value.specs.Shown.{Answers}
use Rattle.cw_answers.specs.declared.fault.AnswersFault.{AnswersFault}
use Rattle.cw_answers.specs.declared.fault.AnswersFault.TheVariants.{Line, NoMemory}
use Rattle.cw_answers.specs.AnswerLines.{AnswerLine, line_fields}
use Rattle.cw_answers.specs.AnswersText.{lines_of, Fits, Spells}

-- these lines are those of some answers
abbrev pub AreAnswers : List AnswerLine → Type 0
AreAnswers lines = (a : Answers) × Fits a × (lines ≡ lines_of a)

abbrev pub IsFault : (text : List ℕ) → (number : ℕ) → Type 0
IsFault text number = IsFirstOther AreAnswers line_fields text number

-- why a reader has no answers to give: a line, or want of memory
abbrev pub IsCause : (text : List ℕ) → AnswersFault → Type 0
IsCause text (Line number) = IsFault text number
IsCause text NoMemory = Unit {0}

-- what a text is: that of these answers, or one whose first line that doesn't fit has this number
abbrev pub IsRead : (text : List ℕ) → Result Answers AnswersFault → Type 0
IsRead text (Ok a) = Spells text a
IsRead text (Err (Line number)) = IsFault text number
IsRead text (Err NoMemory) = ⊥
