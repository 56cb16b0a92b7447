-- The grammar of expressions and tests: its syntax trees, and the parts that each is spelled with.
--
--     expression = term { "|" term }
--     term       = factor { factor }
--     factor     = atom [ "*" | "+" | "?" ]
--     atom       = ( "." | name ) [ "[" test { "," test } "]" ] | "(" expression ")"
--     test       = [ "!" ] ( "amb" | descriptor ":" right )
--
-- A name and a right have the form of a C name, a descriptor has that form or is `0`, `1` or `2`.
use Rattle.std.specs.Prelude.{◌≡◌, ℕ, ◌+◌, ◌≤◌, ◌<◌, max, List, [], ◌∷◌, ◌++◌, Bool, true, false, ◌||◌, Option, Some, None, nat_eq, take, length, IsTrue}
use Rattle.cw_rights.specs.Valid.{is_name}
use Rattle.cw_regex.specs.declared.text.Sign.TheVariants.{Dot, ParenOpen, ParenClose, Bar, Star, Plus, Question, BracketOpen, BracketClose, Bang, Colon, Comma}
use Rattle.cw_regex.specs.Parts.{Part, identifier, sign, parts, starts_blank, ends_blank}

-- the name of a descriptor that is open at the start
abbrev pub is_digit : List ℕ → Bool
is_digit [] = false
is_digit (b ∷ []) = nat_eq b 48 || nat_eq b 49 || nat_eq b 50
is_digit (b ∷ (c ∷ rest)) = false

-- the form of the name of a descriptor
abbrev pub is_descriptor : List ℕ → Bool
is_descriptor w = is_name w || is_digit w

-- A name of a label or of a right, by its bytes.
pub record Name : Type 0 where
  pub bytes : List ℕ
  pub ok : IsTrue (is_name bytes)

-- A name of a descriptor, by its bytes.
pub record DescriptorName : Type 0 where
  pub bytes : List ℕ
  pub ok : IsTrue (is_descriptor bytes)

-- What a test asks for: `amb`, or a descriptor that is open with a right.
pub data Subject : Type 0 where
  ambient : Subject
  holds : DescriptorName → Name → Subject

-- A test, and whether `!` stands before it.
pub record TestForm : Type 0 where
  pub negated : Bool
  pub what : Subject

mutual
  -- One term, or a term, `|`, and an expression.
  pub data Expression : Type 0 where
    only : Term → Expression
    either : Term → Expression → Expression

  -- One factor, or a factor and a term behind it.
  pub data Term : Type 0 where
    single : Factor → Term
    then : Factor → Term → Term

  -- An atom, with nothing behind it, or with `*`, `+` or `?`.
  pub data Factor : Type 0 where
    plain : Atom → Factor
    star : Atom → Factor
    plus : Atom → Factor
    maybe : Atom → Factor

  -- A literal, or an expression in parentheses.
  pub data Atom : Type 0 where
    literal : Option Name → List TestForm → Atom  -- none is `.`; no tests are no brackets
    group : Expression → Atom

abbrev pub amb : List ℕ
amb = 97 ∷ 109 ∷ 98 ∷ []

-- the parts of each, and then the rest
abbrev pub spelled_subject : Subject → List Part → List Part
spelled_subject ambient rest = identifier amb ∷ rest
spelled_subject (holds d r) rest = identifier d.bytes ∷ sign Colon ∷ identifier r.bytes ∷ rest

abbrev pub spelled_if : Bool → Subject → List Part → List Part
spelled_if true what rest = sign Bang ∷ spelled_subject what rest
spelled_if false what rest = spelled_subject what rest

abbrev pub spelled_test : TestForm → List Part → List Part
spelled_test t rest = spelled_if t.negated t.what rest

abbrev pub spelled_more : List TestForm → List Part → List Part
spelled_more [] rest = sign BracketClose ∷ rest
spelled_more (t ∷ ts) rest = sign Comma ∷ spelled_test t (spelled_more ts rest)

abbrev pub spelled_tests : List TestForm → List Part → List Part
spelled_tests [] rest = rest
spelled_tests (t ∷ ts) rest = sign BracketOpen ∷ spelled_test t (spelled_more ts rest)

abbrev pub spelled_label : Option Name → List Part → List Part
spelled_label None rest = sign Dot ∷ rest
spelled_label (Some name) rest = identifier name.bytes ∷ rest

abbrev mutual
  pub spelled : Expression → List Part → List Part
  spelled (only t) rest = spelled_term t rest
  spelled (either t e) rest = spelled_term t (sign Bar ∷ spelled e rest)

  pub spelled_term : Term → List Part → List Part
  spelled_term (single f) rest = spelled_factor f rest
  spelled_term (then f t) rest = spelled_factor f (spelled_term t rest)

  pub spelled_factor : Factor → List Part → List Part
  spelled_factor (plain a) rest = spelled_atom a rest
  spelled_factor (star a) rest = spelled_atom a (sign Star ∷ rest)
  spelled_factor (plus a) rest = spelled_atom a (sign Plus ∷ rest)
  spelled_factor (maybe a) rest = spelled_atom a (sign Question ∷ rest)

  pub spelled_atom : Atom → List Part → List Part
  spelled_atom (literal label tests) rest = spelled_label label (spelled_tests tests rest)
  spelled_atom (group e) rest = sign ParenOpen ∷ spelled e (sign ParenClose ∷ rest)

-- how deep parentheses nest
abbrev mutual
  pub depth : Expression → ℕ
  depth (only t) = depth_term t
  depth (either t e) = max (depth_term t) (depth e)

  pub depth_term : Term → ℕ
  depth_term (single f) = depth_factor f
  depth_term (then f t) = max (depth_factor f) (depth_term t)

  pub depth_factor : Factor → ℕ
  depth_factor (plain a) = depth_atom a
  depth_factor (star a) = depth_atom a
  depth_factor (plus a) = depth_atom a
  depth_factor (maybe a) = depth_atom a

  pub depth_atom : Atom → ℕ
  depth_atom (literal label tests) = 0
  depth_atom (group e) = depth e + 1

-- the text is made of these parts, with blanks between them alone
pub record IsMadeOf (ps : List Part) (text : List ℕ) : Type 0 where
  pub parts : parts text ≡ ps
  pub front : starts_blank text ≡ false
  pub back : ends_blank text ≡ false

-- the text spells the expression, or the test
abbrev pub Spells : List ℕ → Expression → Type 0
Spells text e = IsMadeOf (spelled e []) text

abbrev pub SpellsTest : List ℕ → TestForm → Type 0
SpellsTest text t = IsMadeOf (spelled_test t []) text

abbrev pub IsExpression : List ℕ → Type 0
IsExpression text = (e : Expression) × Spells text e

abbrev pub IsTest : List ℕ → Type 0
IsTest text = (t : TestForm) × SpellsTest text t

-- the text isn't in L, its front of n bytes goes on to some text that is, and its front of one byte more doesn't
pub record IsFaultAt (L : List ℕ → Type 0) (text : List ℕ) (n : ℕ) : Type 0 where
  pub within : n ≤ length text
  pub outside : L text → ⊥
  pub front : (rest : List ℕ) × L (take n text ++ rest)
  pub stuck : n < length text → (rest : List ℕ) → L (take (n + 1) text ++ rest) → ⊥
