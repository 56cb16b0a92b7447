-- Expressions, by recursion on the nesting: each definition is a rule of the grammar. P says what the parts are.
-- Public source: ISO/IEC 9899:2011, 6.5 (expressions; each level groups to the left), 6.4.5 (adjacent strings are one).
use Rattle.std.specs.Prelude.{◌≡◌, ℕ, zero, suc, ◌⊎◌, Some, List, [], ◌∷◌, ◌++◌}
use Rattle.cw_core.specs.Quantities.{limit_of}
use Rattle.cw_core.specs.declared.quantity.Quantity.TheVariants.{Nesting}
use Rattle.cw_syntax.specs.declared.program.CType.{CType}
use Rattle.cw_syntax.specs.declared.program.Op.{Op}
use Rattle.cw_syntax.specs.declared.program.Op.TheVariants as op
use Rattle.cw_syntax.specs.Trees.{Tree, Node}
use Rattle.cw_grammar.specs.declared.terminals.Terminal.TheVariants as w
use Rattle.cw_grammar.specs.declared.terminals.Lexeme.{Lexeme}
use Rattle.cw_grammar.specs.declared.rules.Rule.{Rule}
use Rattle.cw_grammar.specs.declared.rules.Rule.TheVariants.{Expression, Level, Unary, Postfix}
use Rattle.cw_grammar.specs.Operators as operators
use Rattle.cw_grammar.specs.Lexemes.{Is, name_of, from_of, to_of, AreSeparated, IsBetween, trees}
use Rattle.cw_grammar.specs.Types.{IsTypeName}

-- the loosest level, that of two bars
unfoldable pub loosest : ℕ
loosest = 10

-- the greatest nesting that is allowed, of expressions and of statements
unfoldable pub nesting_limit : ℕ
nesting_limit = limit_of Nesting

abbrev pub Derives : Type 1
Derives = Rule → List Lexeme → Tree → Type 0

-- a node over these tokens
abbrev pub node : Op → List Tree → List Lexeme → Tree
node op parts ts = Node op (trees parts) (from_of ts) (to_of ts)

-- ---- primary

abbrev pub IsName : List Lexeme → Tree → Type 0
IsName ts e = (n : Lexeme) × (ts ≡ n ∷ []) × Is w.Name n × (e ≡ node op.Name [] ts)

abbrev pub IsNumber : List Lexeme → Tree → Type 0
IsNumber ts e = (n : Lexeme) × (value : ℕ) × (ts ≡ n ∷ []) × Is (w.Number value) n × (e ≡ node (op.Number value) [] ts)

abbrev pub IsCharacter : List Lexeme → Tree → Type 0
IsCharacter ts e = (n : Lexeme) × (value : ℕ) × (ts ≡ n ∷ []) × Is (w.Character value) n × (e ≡ node (op.Char value) [] ts)

-- nothing but strings
abbrev pub AreStrings : List Lexeme → Type 0
AreStrings [] = Unit {0}
AreStrings (t ∷ ts) = Is w.Text t × AreStrings ts

abbrev pub IsText : List Lexeme → Tree → Type 0
IsText ts e = (t : Lexeme) × (rest : List Lexeme) × (ts ≡ t ∷ rest) × AreStrings ts × (e ≡ node op.Text [] ts)

-- a name, and its arguments in parentheses
abbrev pub IsCall : Derives → List Lexeme → Tree → Type 0
IsCall P ts e =
    (n : Lexeme) × (b : List Lexeme) × (arguments : List Tree)
    × (ts ≡ n ∷ b) × Is w.Name n × IsBetween w.Open w.Close (AreSeparated (P Expression)) b arguments
    × (e ≡ node (op.Call (name_of n)) arguments ts)

-- parentheses make no node
abbrev pub IsPrimary : Derives → List Lexeme → Tree → Type 0
IsPrimary P ts e =
    IsName ts e ⊎ IsCall P ts e ⊎ IsNumber ts e ⊎ IsCharacter ts e ⊎ IsText ts e
    ⊎ IsBetween w.Open w.Close (P Expression) ts e

-- ---- postfix

abbrev pub IsIndex : Derives → List Lexeme → Tree → Type 0
IsIndex P ts e =
    (a : List Lexeme) × (b : List Lexeme) × (x : Tree) × (y : Tree)
    × (ts ≡ a ++ b) × P Postfix a x × IsBetween w.OpenBracket w.CloseBracket (P Expression) b y
    × (e ≡ node op.Index (x ∷ y ∷ []) ts)

abbrev pub IsSuffix : Derives → List Lexeme → Tree → Type 0
IsSuffix P ts e =
    (a : List Lexeme) × (t : Lexeme) × (number : ℕ) × (x : Tree)
    × (ts ≡ a ++ t ∷ []) × (operators.suffix t.terminal ≡ Some number) × P Postfix a x
    × (e ≡ node (op.Suffix number) (x ∷ []) ts)

abbrev pub IsPostfix : Derives → List Lexeme → Tree → Type 0
IsPostfix P ts e = IsPrimary P ts e ⊎ IsIndex P ts e ⊎ IsSuffix P ts e

-- ---- unary

-- one of `+ - ! ~ * &` before an operand
abbrev pub IsSigned : Derives → List Lexeme → Tree → Type 0
IsSigned P ts e =
    (t : Lexeme) × (b : List Lexeme) × (number : ℕ) × (x : Tree)
    × (ts ≡ t ∷ b) × (operators.sign t.terminal ≡ Some number) × P (Level 0) b x
    × (e ≡ node (op.Prefix number) (x ∷ []) ts)

-- `++` or `--` before a unary
abbrev pub IsStepped : Derives → List Lexeme → Tree → Type 0
IsStepped P ts e =
    (t : Lexeme) × (b : List Lexeme) × (number : ℕ) × (x : Tree)
    × (ts ≡ t ∷ b) × (operators.step t.terminal ≡ Some number) × P Unary b x
    × (e ≡ node (op.Prefix number) (x ∷ []) ts)

-- `sizeof` before a unary
abbrev pub IsSizeOf : Derives → List Lexeme → Tree → Type 0
IsSizeOf P ts e =
    (t : Lexeme) × (b : List Lexeme) × (x : Tree)
    × (ts ≡ t ∷ b) × Is w.SizeOf t × P Unary b x
    × (e ≡ node op.SizeOf (x ∷ []) ts)

-- `sizeof` before a type in parentheses
abbrev pub IsSizeOfType : List Lexeme → Tree → Type 0
IsSizeOfType ts e =
    (t : Lexeme) × (b : List Lexeme) × (kind : CType)
    × (ts ≡ t ∷ b) × Is w.SizeOf t × IsBetween w.Open w.Close IsTypeName b kind
    × (e ≡ node (op.SizeOfType kind) [] ts)

abbrev pub IsUnary : Derives → List Lexeme → Tree → Type 0
IsUnary P ts e = IsSigned P ts e ⊎ IsStepped P ts e ⊎ IsSizeOf P ts e ⊎ IsSizeOfType ts e ⊎ IsPostfix P ts e

-- ---- operands, and the levels above them

-- a type in parentheses before an operand
abbrev pub IsCast : Derives → List Lexeme → Tree → Type 0
IsCast P ts e =
    (a : List Lexeme) × (b : List Lexeme) × (kind : CType) × (x : Tree)
    × (ts ≡ a ++ b) × IsBetween w.Open w.Close IsTypeName a kind × P (Level 0) b x
    × (e ≡ node (op.Cast kind) (x ∷ []) ts)

abbrev pub IsOperand : Derives → List Lexeme → Tree → Type 0
IsOperand P ts e = IsCast P ts e ⊎ IsUnary P ts e

-- an operator between what is of its level and what is of the level below: so it groups to the left
abbrev pub IsBinary : Derives → (below : ℕ) → List Lexeme → Tree → Type 0
IsBinary P below ts e =
    (a : List Lexeme) × (t : Lexeme) × (b : List Lexeme) × (number : ℕ) × (x : Tree) × (y : Tree)
    × (ts ≡ a ++ t ∷ b) × (operators.binary t.terminal ≡ Some (number, suc below)) × P (Level (suc below)) a x × P (Level below) b y
    × (e ≡ node (op.Binary number) (x ∷ y ∷ []) ts)

abbrev pub IsLevel : Derives → ℕ → List Lexeme → Tree → Type 0
IsLevel P zero ts e = IsOperand P ts e
IsLevel P (suc below) ts e = IsLevel P below ts e ⊎ IsBinary P below ts e

-- ---- expressions

abbrev pub IsAssignment : Derives → List Lexeme → Tree → Type 0
IsAssignment P ts e =
    (a : List Lexeme) × (t : Lexeme) × (b : List Lexeme) × (number : ℕ) × (x : Tree) × (y : Tree)
    × (ts ≡ a ++ t ∷ b) × (operators.assign t.terminal ≡ Some number) × P Unary a x × P Expression b y
    × (e ≡ node (op.Assign number) (x ∷ y ∷ []) ts)

abbrev pub IsRule : Derives → Rule → List Lexeme → Tree → Type 0
IsRule P Expression ts e = IsLevel P loosest ts e ⊎ IsAssignment P ts e
IsRule P (Level l) ts e = IsLevel P l ts e
IsRule P Unary ts e = IsUnary P ts e
IsRule P Postfix ts e = IsPostfix P ts e

-- The tokens derive the tree by this rule, with at most this nesting.
abbrev pub IsDerived : ℕ → Derives
IsDerived zero rule ts e = ⊥
IsDerived (suc n) rule ts e = IsRule (IsDerived n) rule ts e

-- The tokens are the expression, with at most this nesting.
abbrev pub IsExpression : ℕ → List Lexeme → Tree → Type 0
IsExpression n ts e = IsDerived n Expression ts e
