-- Working definitions: a negative number by the digits behind its sign; which name comes behind others, and where a text goes on with no more lines of a kind.
use Rattle.std.specs.Prelude.{◌≡◌, ℕ, suc, ◌^◌, ◌<◌, ℤ, pos, negsuc, List, [], ◌∷◌, Bool, true, Option, Some, None}
use Rattle.std.specs.Cmp.Lexicographic.{slice_cmp}
use Rattle.std.specs.Global.{Vec}
use Rattle.std.specs.Ordering.{nat_cmp, is_lt, on}
use Rattle.std.specs.declared.cmp.Ordering.{Ordering}
use Rattle.std.specs.Fmt.{decimal}
use Rattle.cw_certs.specs.declared.moves.Move.{Move}
use Rattle.cw_text_lines.specs.Lines.{StartsWith}
use Rattle.cw_answers.specs.AnswerLines.{Name, Try, Call, line_fields, FitsLine}

abbrev pub IsNegative : ℤ → Type 0
IsNegative (pos n) = ⊥
IsNegative (negsuc n) = n < 2 ^ 63

abbrev pub unsigned : ℤ → List ℕ
unsigned (pos n) = decimal n
unsigned (negsuc n) = decimal (suc n)

-- a name with its value as plain data; names by their bytes
abbrev pub name_of : Vec ℕ × ℤ → List ℕ × ℤ
name_of n = (n.0.items, n.1)

abbrev pub by_name : List ℕ × ℤ → List ℕ × ℤ → Ordering
by_name = on (λ p. p.0) (slice_cmp nat_cmp)

-- a name stands behind the last one, if there is one
abbrev pub is_behind : Option (List ℕ) → List ℕ → Bool
is_behind None name = true
is_behind (Some last) name = is_lt (slice_cmp nat_cmp last name)

-- the last name of some, or one before them
abbrev pub last_of : Option (List ℕ) → List (List ℕ × ℤ) → Option (List ℕ)
last_of last [] = last
last_of last (n ∷ ns) = last_of (Some n.0) ns

-- no name that stands behind the last one goes on; no answer to a try; no answer of a call
abbrev pub NoName : List (List ℕ × ℤ) → List ℕ → Type 0
NoName names text = (name : List ℕ) (value : ℤ) (more : List ℕ) → is_behind (last_of None names) name ≡ true → StartsWith FitsLine line_fields text (Name name value) more → ⊥

abbrev pub NoTry : List ℕ → Type 0
NoTry text = (by : Move) (more : List ℕ) → StartsWith FitsLine line_fields text (Try by) more → ⊥

abbrev pub NoCall : List ℕ → Type 0
NoCall text = (value : ℤ) (more : List ℕ) → StartsWith FitsLine line_fields text (Call value) more → ⊥
