-- Why the tokens of a source aren't a program. Public source: ISO/IEC 9899:2011, 6.9 (a translation unit is what the grammar derives).
use Rattle.std.specs.Prelude.{◌≡◌, ℕ, ◌+◌, ◌<◌, ◌≤◌, List, length, take, Option, Some, None, slice_get}
use Rattle.cw_syntax.specs.Trees.{File}
use Rattle.cw_lex.specs.declared.tokens.Token.{Token}
use Rattle.cw_grammar.specs.declared.terminals.Lexeme.{Lexeme}
use Rattle.cw_grammar.specs.Spelling.{lexemes_of}
use Rattle.cw_grammar.specs.Files.{IsProgram}
use Rattle.cw_recogniser.specs.Language.{AreOfGrammar, IsFront}
use Rattle.cw_parse.specs.declared.fault.ParseFault.{ParseFault}
use Rattle.cw_parse.specs.declared.fault.ParseFault.TheVariants.{Syntax, TooDeep, NoMemory}

-- where a token begins, or the length of the source where there is none
abbrev pub place_of : List ℕ → Option Lexeme → ℕ
place_of source (Some t) = t.from
place_of source None = length source

-- The tokens aren't of the grammar. The first `at` of them are a front of a text of it, and one more isn't; where there is no more, all are a front.
pub record LeaveAt (ts : List Lexeme) (at : ℕ) : Type 0 where
  pub no_text : ¬ (AreOfGrammar ts)
  pub within : at ≤ length ts
  pub front : IsFront (take at ts)
  pub first : at < length ts → ¬ (IsFront (take (at + 1) ts))

-- Why these tokens of a source aren't a program. Want of memory may always come.
abbrev pub IsFaultIn : List ℕ → List Lexeme → ParseFault → Type 0
IsFaultIn source ts (Syntax place) = (at : ℕ) × LeaveAt ts at × (place ≡ place_of source (slice_get ts at))
IsFaultIn source ts TooDeep = AreOfGrammar ts × ((file : File) → ¬ (IsProgram ts file))
IsFaultIn source ts NoMemory = Unit {0}

-- the program that a source's tokens derive, in which nothing nests past the limit
abbrev pub IsParsed : List ℕ → List Token → File → Type 0
IsParsed source tokens file = IsProgram (lexemes_of source tokens) file

abbrev pub IsParseFault : List ℕ → List Token → ParseFault → Type 0
IsParseFault source tokens fault = IsFaultIn source (lexemes_of source tokens) fault
