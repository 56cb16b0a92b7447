-- Texts as the code holds them.
use Rattle.std.specs.Prelude.{ℕ, List, map, Bool, true, false}
use Rattle.std.specs.Borrow.{Bor}
use Rattle.cw_syntax.specs.declared.program.Stmt.{Stmt}
use Rattle.cw_syntax.specs.Trees.{Declared, Statement, statement_of}
use Rattle.cw_value.specs.Machines.{is_array, is_plain}
use Rattle.cw_value.specs.Expressions.{Named}

abbrev pub text_at : Bor (List ℕ) → List ℕ
text_at text = text.now

abbrev pub named_of : List (Bor (List ℕ)) → List (Bor (List ℕ)) → Named
named_of plain arrays = record { plain = map text_at plain; arrays = map text_at arrays }

abbrev pub statement_at : Bor Stmt → Statement
statement_at s = statement_of s.now

-- whether a declared name is an array, or whether it is none
abbrev pub of_shape : Bool → Declared → Bool
of_shape true = is_array
of_shape false = is_plain
