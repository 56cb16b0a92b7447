-- The lines of answers.
use Rattle.std.specs.Prelude.{ℕ, ◌^◌, ◌<◌, ℤ, pos, negsuc, List, [], ◌∷◌, IsTrue, codes}
use Rattle.std.specs.Fmt.{signed_decimal}
use Rattle.cw_certs.specs.declared.moves.Move.{Move}
use Rattle.cw_rights.specs.Valid.{is_name}
use Rattle.cw_text.specs.Moves.{move_name}
use Rattle.cw_value.specs.Shown.{IsAnswer}

-- What a line says: the head; the value of a name; the answer to a try; what an external call gives; the end.
pub data AnswerLine : Type 0 where
  Head : AnswerLine
  Name : List ℕ → ℤ → AnswerLine
  Try : Move → AnswerLine
  Call : ℤ → AnswerLine
  End : AnswerLine

-- `capweave answers 1`; `name NAME VALUE`; `try grant`, `try refuse`; `call VALUE`; `end`
abbrev pub line_fields : AnswerLine → List (List ℕ)
line_fields Head = codes "capweave" ∷ codes "answers" ∷ codes "1" ∷ []
line_fields (Name name value) = codes "name" ∷ name ∷ signed_decimal value ∷ []
line_fields (Try by) = codes "try" ∷ move_name by ∷ []
line_fields (Call value) = codes "call" ∷ signed_decimal value ∷ []
line_fields End = codes "end" ∷ []

-- from -2^63 to 2^63 - 1
abbrev pub FitsValue : ℤ → Type 0
FitsValue (pos n) = n < 2 ^ 63
FitsValue (negsuc n) = n < 2 ^ 63

-- A name has the form of a C name, and a value is a number of 64 bits.
abbrev pub FitsLine : AnswerLine → Type 0
FitsLine Head = Unit {0}
FitsLine (Name name value) = IsTrue (is_name name) × FitsValue value
FitsLine (Try by) = IsAnswer by
FitsLine (Call value) = FitsValue value
FitsLine End = Unit {0}
