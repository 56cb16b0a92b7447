-- The trees of statements that hold vectors, by their fields.
use Rattle.std.proofs.Common.{◌≡◌, List, [], ◌∷◌, ap, refl, map, ◌∙◌}
use Rattle.std.specs.Global.{Vec}
use Rattle.cw_syntax.specs.declared.program.Stmt.{Stmt}
use Rattle.cw_syntax.specs.declared.program.What.{Block as BlockWhat, Row_of-Stmt, end_of-Stmt, more_of-Stmt, items-the_row-Stmt, items_hidden-the_row-Stmt-0}
use Rattle.cw_syntax.specs.declared.program.What.TheBlock.{hidden-the_row-Stmt-0}
use Rattle.cw_syntax.specs.Trees.{Stated, Block, cons, form_of, row_statements, statement_of, statements_of}
use Rattle.cw_grammar.specs.Lexemes.{statements}

pub statements_map : (ss : List Stmt) → statements_of ss ≡ statements (map statement_of ss)
statements_map [] = refl
statements_map (s ∷ ss) = ap (cons (statement_of s)) (statements_map ss)

row_is : {m : _} (r : Row_of-Stmt m) → row_statements r ≡ statements_of (items-the_row-Stmt _ r)
row_is end_of-Stmt = refl
row_is (more_of-Stmt what from to rest) = ap (cons (Stated (form_of what) from to)) (row_is rest)

-- the form of a block by its statements
pub block_is : (v : Vec Stmt) → form_of (BlockWhat v) ≡ Block (statements (map statement_of v.items))
block_is v = ap Block (row_is (hidden-the_row-Stmt-0 v) ∙ ap statements_of (items_hidden-the_row-Stmt-0 v) ∙ statements_map v.items)
