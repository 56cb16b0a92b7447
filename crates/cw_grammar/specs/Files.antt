-- Functions and files. Public source: ISO/IEC 9899:2011, 6.9 (external definitions).
use Rattle.std.specs.Prelude.{◌≡◌, ◌≢◌, ℕ, None, List, [], ◌∷◌, ◌++◌}
use Rattle.cw_syntax.specs.declared.program.Param.{Param}
use Rattle.cw_syntax.specs.Trees.{Statement, Declaration, Prototype, Definition, File}
use Rattle.cw_grammar.specs.declared.terminals.Terminal.TheVariants as w
use Rattle.cw_grammar.specs.declared.terminals.Lexeme.{Lexeme}
use Rattle.cw_grammar.specs.Lexemes.{Is, AreAll, statements}
use Rattle.cw_grammar.specs.Expressions.{IsExpression, nesting_limit}
use Rattle.cw_grammar.specs.Declarations.{IsDeclaration, IsHeader, IsPrototype}
use Rattle.cw_grammar.specs.Statements.{InBlock, IsStatement}

abbrev pub AreNamed : List Param → Type 0
AreNamed [] = Unit {0}
AreNamed (p ∷ ps) = (p.name ≢ None) × AreNamed ps

-- `specs stars name "(" params ")" "{" { decl | stmt } "}"`, each parameter with a name
abbrev pub IsFunction : ℕ → List Lexeme → Definition → Type 0
IsFunction n ts f =
    (header : List Lexeme) × (opens : Lexeme) × (inner : List Lexeme) × (closes : Lexeme) × (body : List Statement)
    × (ts ≡ header ++ (opens ∷ inner ++ closes ∷ [])) × IsHeader header f.name f.result f.params × AreNamed f.params
    × Is w.OpenBrace opens × (f.brace ≡ opens.to) × AreAll (IsStatement n n InBlock) inner body × (f.body ≡ statements body) × Is w.CloseBrace closes

-- what a file is made of
pub data Part : Type 0 where
  Declares : Prototype → Part
  Holds : Declaration → Part
  Defines : Definition → Part

abbrev pub IsPart : ℕ → List Lexeme → Part → Type 0
IsPart n ts (Declares p) = IsPrototype ts p
IsPart n ts (Holds d) = IsDeclaration (IsExpression n) ts d
IsPart n ts (Defines f) = IsFunction n ts f

-- the parts of each kind, in their order
abbrev pub file_of : List Part → File
file_of [] = record { protos = []; globals = []; functions = [] }
file_of (Declares p ∷ parts) = let file = file_of parts in record { protos = p ∷ file.protos; globals = file.globals; functions = file.functions }
file_of (Holds d ∷ parts) = let file = file_of parts in record { protos = file.protos; globals = d ∷ file.globals; functions = file.functions }
file_of (Defines f ∷ parts) = let file = file_of parts in record { protos = file.protos; globals = file.globals; functions = f ∷ file.functions }

-- The tokens derive the file. Its statements nest at most n deep, and so do its expressions.
abbrev pub IsFile : ℕ → List Lexeme → File → Type 0
IsFile n ts file = (parts : List Part) × AreAll (IsPart n) ts parts × (file ≡ file_of parts)

-- The tokens are of the grammar, however deep they nest.
unfoldable pub IsOfGrammar : List Lexeme → File → Type 0
IsOfGrammar ts file = (n : ℕ) × IsFile n ts file

-- The tokens are of the grammar, and nothing nests past the limit.
unfoldable pub IsProgram : List Lexeme → File → Type 0
IsProgram ts file = IsFile nesting_limit ts file
