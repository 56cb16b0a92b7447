-- Declarations, prototypes and headers of functions. E says what an expression is.
-- Public source: ISO/IEC 9899:2011, 6.7 (declarations), 6.7.6 (declarators), 6.7.9 (initialisers), 6.9.1 (functions).
use Rattle.std.specs.Prelude.{◌≡◌, ◌≢◌, ℕ, ◌<◌, ◌⊎◌, Bool, true, false, Option, List, [], ◌∷◌, ◌++◌, length}
use Rattle.cw_syntax.specs.declared.program.Name.{Name}
use Rattle.cw_syntax.specs.declared.program.CType.{CType}
use Rattle.cw_syntax.specs.declared.program.Base.{Base}
use Rattle.cw_syntax.specs.declared.program.Param.{Param}
use Rattle.cw_syntax.specs.Trees.{Tree, Trees, none, more, Declared, Declaration, Prototype}
use Rattle.cw_grammar.specs.declared.terminals.Terminal.TheVariants as w
use Rattle.cw_grammar.specs.declared.terminals.Lexeme.{Lexeme}
use Rattle.cw_grammar.specs.Lexemes.{Is, terminals, name_of, from_of, to_of, IsFlag, IsOptional, AreSeparated, IsBetween, IsEnded, trees}
use Rattle.cw_grammar.specs.Types.{IsType, AreStars, IsTypeName}

abbrev pub Expressions : Type 1
Expressions = List Lexeme → Tree → Type 0

abbrev pub IsName : List Lexeme → Name → Type 0
IsName ts name = (n : Lexeme) × (ts ≡ n ∷ []) × Is w.Name n × (name ≡ name_of n)

-- ---- specifiers

-- `[ "extern" | "static" ]`
abbrev pub IsStorage : List Lexeme → (external fixed : Bool) → Type 0
IsStorage ts false false = ts ≡ []
IsStorage ts true false = terminals ts ≡ w.Extern ∷ []
IsStorage ts false true = terminals ts ≡ w.Static ∷ []
IsStorage ts true true = ⊥

-- what stands before the stars of each name that is declared
pub record Specifiers : Type 0 where
  pub external : Bool
  pub fixed : Bool
  pub constant : Bool
  pub base : Base
  pub unsigned : Bool

-- `[ "extern" | "static" ] [ "const" ] type`
abbrev pub AreSpecifiers : List Lexeme → Specifiers → Type 0
AreSpecifiers ts specs =
    (a : List Lexeme) × (b : List Lexeme) × (c : List Lexeme)
    × (ts ≡ a ++ (b ++ c)) × IsStorage a specs.external specs.fixed × IsFlag w.Const b specs.constant × IsType c specs.base specs.unsigned

abbrev pub pointer : Specifiers → (stars : ℕ) → CType
pointer specs stars = record { base = specs.base; unsigned = specs.unsigned; stars = stars }

-- ---- declarations

-- `[ "[" [ expr ] "]" ]`
abbrev pub IsArray : Expressions → List Lexeme → Option (Option Tree) → Type 0
IsArray E ts array = IsOptional (IsBetween w.OpenBracket w.CloseBracket (IsOptional E)) ts array

-- `expr { "," expr } [ "," ]`
abbrev pub AreElements : Expressions → List Lexeme → List Tree → Type 0
AreElements E ts es =
    (a : List Lexeme) × (b : List Lexeme) × (trailing : Bool)
    × (ts ≡ a ++ b) × (0 < length es) × AreSeparated E a es × IsFlag w.Comma b trailing

-- `[ "=" ( expr | "{" expr { "," expr } [ "," ] "}" ) ]`
abbrev pub IsInitialiser : Expressions → List Lexeme → Trees → (braces : Bool) → Type 0
IsInitialiser E ts none false = ts ≡ []
IsInitialiser E ts (more e none) false = (t : Lexeme) × (b : List Lexeme) × (ts ≡ t ∷ b) × Is w.Assign t × E b e
IsInitialiser E ts (more e es) false = ⊥
IsInitialiser E ts es true =
    (t : Lexeme) × (b : List Lexeme) × (elements : List Tree)
    × (ts ≡ t ∷ b) × Is w.Assign t × IsBetween w.OpenBrace w.CloseBrace (AreElements E) b elements × (es ≡ trees elements)

-- `stars name [ "[" [ expr ] "]" ] [ "=" init ]`
abbrev pub IsItem : Expressions → Specifiers → List Lexeme → Declared → Type 0
IsItem E specs ts item =
    (a : List Lexeme) × (b : List Lexeme) × (c : List Lexeme) × (d : List Lexeme) × (stars : ℕ)
    × (ts ≡ a ++ (b ++ (c ++ d))) × AreStars a stars × (item.kind ≡ pointer specs stars) × IsName b item.name
    × IsArray E c item.array × IsInitialiser E d item.init item.braces

-- `specs item { "," item } ";"`
abbrev pub IsDeclaration : Expressions → List Lexeme → Declaration → Type 0
IsDeclaration E ts d =
    (a : List Lexeme) × (b : List Lexeme) × (specs : Specifiers)
    × (ts ≡ a ++ b) × AreSpecifiers a specs
    × (d.external ≡ specs.external) × (d.fixed ≡ specs.fixed) × (d.constant ≡ specs.constant)
    × (0 < length d.items) × IsEnded w.Semicolon (AreSeparated (IsItem E specs)) b d.items
    × (d.from ≡ from_of ts) × (d.to ≡ to_of ts)

-- ---- functions

-- `[ "[" "]" ]`
abbrev pub IsBrackets : List Lexeme → Bool → Type 0
IsBrackets ts true = terminals ts ≡ w.OpenBracket ∷ w.CloseBracket ∷ []
IsBrackets ts false = ts ≡ []

-- `[ "const" ] type stars [ name ] [ "[" "]" ]`
abbrev pub IsParam : List Lexeme → Param → Type 0
IsParam ts p =
    (a : List Lexeme) × (b : List Lexeme) × (c : List Lexeme)
    × (ts ≡ a ++ (b ++ c)) × IsTypeName a p.kind × IsOptional IsName b p.name
    × IsBrackets c p.array

-- `(void)` is the list without parameters, and is read in no other way
abbrev pub AreParams : List Lexeme → List Param → Type 0
AreParams ts ps =
    ((terminals ts ≡ w.Void ∷ []) × (ps ≡ []))
    ⊎ ((terminals ts ≢ w.Void ∷ []) × AreSeparated IsParam ts ps)

-- `specs stars name "(" params ")"`
abbrev pub IsHeader : List Lexeme → Name → CType → List Param → Type 0
IsHeader ts name result params =
    (a : List Lexeme) × (b : List Lexeme) × (c : List Lexeme) × (d : List Lexeme) × (specs : Specifiers) × (stars : ℕ)
    × (ts ≡ a ++ (b ++ (c ++ d))) × AreSpecifiers a specs × AreStars b stars × (result ≡ pointer specs stars)
    × IsName c name × IsBetween w.Open w.Close AreParams d params

-- `specs stars name "(" params ")" ";"`
abbrev pub IsPrototype : List Lexeme → Prototype → Type 0
IsPrototype ts p =
    (a : List Lexeme) × (s : Lexeme)
    × (ts ≡ a ++ s ∷ []) × IsHeader a p.name p.result p.params × Is w.Semicolon s
