-- What a source is read as, and why it is refused. Public source: ISO/IEC 9899:2011, 5.1.1.2 (tokens, then the grammar), 6.9.
use Rattle.std.specs.Prelude.{◌≡◌, ℕ, List, Some, None}
use Rattle.cw_syntax.specs.Trees.{File}
use Rattle.cw_lex.specs.declared.tokens.Token.{Token}
use Rattle.cw_lex.specs.Tokens.{AreTokens, IsFault as IsLexFault}
use Rattle.cw_parse.specs.declared.fault.ParseFault.{ParseFault}
use Rattle.cw_parse.specs.declared.fault.ParseFault.TheVariants as parse
use Rattle.cw_parse.specs.Faults.{IsParsed, IsParseFault}
use Rattle.cw_scope.specs.Faults.{scope_fault}
use Rattle.cw_source.specs.declared.fault.SourceFault.{SourceFault}
use Rattle.cw_source.specs.declared.fault.SourceFault.TheVariants.{Lex, Syntax, TooDeep, Scope, NoMemory}

-- the tokens of the source derive the program, and nothing nests past the limit
abbrev pub Derives : List ℕ → File → Type 0
Derives source file = (tokens : List Token) × AreTokens source tokens × IsParsed source tokens file

-- the source has tokens, and this is why they aren't a program
abbrev pub DerivesNone : List ℕ → ParseFault → Type 0
DerivesNone source fault = (tokens : List Token) × AreTokens source tokens × IsParseFault source tokens fault

-- The tokens of the source derive the program, nothing nests past the limit, and the scope rules hold.
pub record ReadsAs (source : List ℕ) (file : File) : Type 0 where
  pub tokens : List Token
  pub lexed : AreTokens source tokens
  pub derived : IsParsed source tokens file
  pub scoped : scope_fault source file ≡ None

-- The first fault, in the order in which it is tested: of the tokens, of the syntax, of the nesting, of the scope rules. Want of memory may always come.
abbrev pub IsFaultOf : List ℕ → SourceFault → Type 0
IsFaultOf source (Lex fault) = IsLexFault source fault
IsFaultOf source (Syntax place) = DerivesNone source (parse.Syntax place)
IsFaultOf source TooDeep = DerivesNone source parse.TooDeep
IsFaultOf source (Scope fault) = (file : File) × Derives source file × (scope_fault source file ≡ Some fault)
IsFaultOf source NoMemory = Unit {0}
