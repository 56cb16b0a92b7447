-- The text of answers.
use Rattle.std.specs.Prelude.{◌≡◌, ℕ, ℤ, List, [], ◌∷◌, ◌++◌, map}
use Rattle.std.specs.List.{All}
use Rattle.cw_text_lines.specs.Lines.{whole_lines}
use Rattle.cw_value.specs.Shown.{Answers, AreInOrder}
use Rattle.cw_answers.specs.AnswerLines.{AnswerLine, Head, Name, Try, Call, End, line_fields, FitsLine}

abbrev pub name_line : List ℕ × ℤ → AnswerLine
name_line n = Name n.0 n.1

-- the head, a line for each name, each try and each call, the end
abbrev pub lines_of : Answers → List AnswerLine
lines_of a = Head ∷ (map name_line a.names ++ (map Try a.tries ++ (map Call a.calls ++ End ∷ [])))

abbrev pub answers_text : Answers → List ℕ
answers_text a = whole_lines line_fields (lines_of a)

-- answers that have a text: the names ascend strictly by their bytes, and each line fits
pub record Fits (a : Answers) : Type 0 where
  pub in_order : AreInOrder a
  pub lines : All FitsLine (lines_of a)

-- the text is that of these answers
pub record Spells (text : List ℕ) (a : Answers) : Type 0 where
  pub fits : Fits a
  pub spelled : text ≡ answers_text a
