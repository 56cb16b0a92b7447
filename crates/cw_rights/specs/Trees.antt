-- Regular expressions as plain trees: a sequence is a chain of parts that ends in `nothing`, and an
-- alternative a chain of parts that ends in `never`.
use Rattle.std.specs.Prelude.{ℕ, ◌+◌, max, List, [], ◌∷◌, Bool, Option}
use Rattle.cw_rights.specs.declared.words.Test.{Test}
use Rattle.cw_rights.specs.declared.words.Lit.{Lit}
use Rattle.cw_rights.specs.declared.words.Regex.{Regex, Lit as Lit', Cat', Or', Star', Plus', Maybe', Row_of-Regex, end_of-Regex, more_of-Regex}

-- a label's number, or none for any label, and tests with their wanted truths
pub record Literal : Type 0 where
  pub label : Option ℕ
  pub tests : List (Bool × Test)

-- An expression, by its operator: `star` any number of its body, `plus` one or more, `maybe` one or none.
pub data Tree : Type 0 where
  nothing : Tree  -- the sequence of no parts
  never : Tree  -- the alternative of no parts
  one : Literal → Tree
  seq : Tree → Tree → Tree  -- a part, and the sequence of those after it
  alt : Tree → Tree → Tree  -- a part, and the alternative of those after it
  star : Tree → Tree
  plus : Tree → Tree
  maybe : Tree → Tree

abbrev pub literal_of : Lit → Literal
literal_of lit = record { label = lit.label; tests = lit.tests.items }

abbrev mutual
  -- the tree that an expression stands for
  pub tree_of : Regex → Tree
  tree_of (Lit' lit) = one (literal_of lit)
  tree_of (Cat' shape row) = seq_row row
  tree_of (Or' shape row) = alt_row row
  tree_of (Star' p r) = star (tree_of r)
  tree_of (Plus' p r) = plus (tree_of r)
  tree_of (Maybe' p r) = maybe (tree_of r)

  pub seq_row : {n : _} → Row_of-Regex n → Tree
  seq_row end_of-Regex = nothing
  seq_row (more_of-Regex r rest) = seq (tree_of r) (seq_row rest)

  pub alt_row : {n : _} → Row_of-Regex n → Tree
  alt_row end_of-Regex = never
  alt_row (more_of-Regex r rest) = alt (tree_of r) (alt_row rest)

-- the sequence and the alternative of these parts
abbrev pub seq_of : List Regex → Tree
seq_of [] = nothing
seq_of (r ∷ rest) = seq (tree_of r) (seq_of rest)

abbrev pub alt_of : List Regex → Tree
alt_of [] = never
alt_of (r ∷ rest) = alt (tree_of r) (alt_of rest)

-- how many literals it has
abbrev pub count : Tree → ℕ
count nothing = 0
count never = 0
count (one l) = 1
count (seq r s) = count r + count s
count (alt r s) = count r + count s
count (star r) = count r
count (plus r) = count r
count (maybe r) = count r

-- 1 for a part that needs parentheses: an alternative or a sequence within a sequence, an alternative within an
-- alternative, and all but a literal as the body of a star, plus or `?`
abbrev pub in_seq : Tree → ℕ
in_seq nothing = 1
in_seq never = 1
in_seq (seq r s) = 1
in_seq (alt r s) = 1
in_seq _ = 0

abbrev pub in_alt : Tree → ℕ
in_alt never = 1
in_alt (alt r s) = 1
in_alt _ = 0

abbrev pub in_body : Tree → ℕ
in_body (one l) = 0
in_body _ = 1

-- the greatest number of parts, each within the one before, that need parentheses
abbrev pub nesting : Tree → ℕ
nesting nothing = 0
nesting never = 0
nesting (one l) = 0
nesting (seq r s) = max (in_seq r + nesting r) (nesting s)
nesting (alt r s) = max (in_alt r + nesting r) (nesting s)
nesting (star r) = in_body r + nesting r
nesting (plus r) = in_body r + nesting r
nesting (maybe r) = in_body r + nesting r

-- each literal of it is in P
abbrev pub AllLiterals : (Literal → Type 0) → Tree → Type 0
AllLiterals P nothing = Unit {0}
AllLiterals P never = Unit {0}
AllLiterals P (one l) = P l
AllLiterals P (seq r s) = AllLiterals P r × AllLiterals P s
AllLiterals P (alt r s) = AllLiterals P r × AllLiterals P s
AllLiterals P (star r) = AllLiterals P r
AllLiterals P (plus r) = AllLiterals P r
AllLiterals P (maybe r) = AllLiterals P r
