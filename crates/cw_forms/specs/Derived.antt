-- What the form of a source is to be read as.
use Rattle.std.specs.Prelude.{◌≡◌, ℕ, List}
use Rattle.cw_syntax.specs.Trees.{File}
use Rattle.cw_lex.specs.declared.tokens.Token.{Token}
use Rattle.cw_lex.specs.Tokens.{AreTokens}
use Rattle.cw_grammar.specs.Spelling.{lexemes_of}
use Rattle.cw_parse.specs.Faults.{IsParsed}
use Rattle.cw_scope.specs.Walks.{every_statement}
use Rattle.cw_detach.specs.Form.{form_of}
use Rattle.cw_forms.specs.Stretches.{Stretch, lefts, rights}
use Rattle.cw_forms.specs.Spans.{spans_of}
use Rattle.cw_forms.specs.Statements.{pairs_in, SameFile}

-- The tokens of a source in stretches, so that those of its form are these with the two texts' around each call; and the file that these
-- derive, in which nothing nests past the limit: the source's, but for places and for the statements that stand for the calls.
pub record FormDerives (source : List ℕ) (names : List (List ℕ)) (source_tokens : List Token) (file : File) : Type 0 where
  pub stretches : List Stretch
  pub of_source : lefts stretches ≡ lexemes_of source source_tokens
  pub at_spans : spans_of stretches ≡ pairs_in source names (every_statement file)
  pub tokens : List Token
  pub lexed : AreTokens (form_of source names file) tokens
  pub of_form : lexemes_of (form_of source names file) tokens ≡ rights 0 stretches
  pub made : File
  pub derived : IsParsed (form_of source names file) tokens made
  pub same : SameFile source (form_of source names file) file made
