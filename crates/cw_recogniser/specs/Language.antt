-- The language of the grammar, and the fronts of its texts.
-- Public source: ISO/IEC 9899:2011, 6.9 (a translation unit is what its rules derive).
use Rattle.std.specs.Prelude.{List, ◌++◌}
use Rattle.cw_syntax.specs.Trees.{File}
use Rattle.cw_grammar.specs.declared.terminals.Lexeme.{Lexeme}
use Rattle.cw_grammar.specs.Files.{IsOfGrammar}

-- The tokens derive some file, however deep they nest.
unfoldable pub AreOfGrammar : List Lexeme → Type 0
AreOfGrammar ts = (file : File) × IsOfGrammar ts file

-- Some tokens behind these make a text.
unfoldable pub IsFront : List Lexeme → Type 0
IsFront ts = (more : List Lexeme) × AreOfGrammar (ts ++ more)
