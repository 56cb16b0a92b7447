-- Expressions and blocks as trees, by what their fields hold.
use Rattle.std.proofs.Common.{◌≡◌, Vec, Global, refl, ap, ◌∙◌}
use mathlib.Core.Former.{Count}
use Rattle.cw_syntax.specs.declared.program.Expr.{Expr, out-Expr, Row_of-Expr, end_of-Expr, more_of-Expr, items-the_row-Expr, is-Expr', items_hidden-the_row-Expr-0}
use Rattle.cw_syntax.specs.declared.program.Expr.TheBlock.{hidden-the_row-Expr-0}
use Rattle.cw_syntax.specs.declared.program.Stmt.{Stmt}
use Rattle.cw_syntax.specs.declared.program.What.{What, Block', Row_of-Stmt, end_of-Stmt, more_of-Stmt, items-the_row-Stmt, items_hidden-the_row-Stmt-0}
use Rattle.cw_syntax.specs.declared.program.What.TheVariants.{Block}
use Rattle.cw_syntax.specs.Trees.{Node, more, tree_of, row_trees, trees_of, Stated, Block as BlockForm, cons, form_of, row_statements, statements_of}

trees_are : (n : _) (row : Row_of-Expr n) → row_trees row ≡ trees_of (items-the_row-Expr n row)
trees_are n end_of-Expr = refl
trees_are n (more_of-Expr e rest) = ap (more (tree_of e)) (trees_are _ rest)

-- an expression's tree
pub node_is : (e : Expr) → tree_of e ≡ Node (out-Expr e).op (trees_of (out-Expr e).parts.items) (out-Expr e).from (out-Expr e).to
node_is e =
    let o = out-Expr e in
    ap tree_of (is-Expr' e) ∙ ap (λ ts. Node o.op ts o.from o.to) (trees_are _ (hidden-the_row-Expr-0 o.parts) ∙ ap trees_of (items_hidden-the_row-Expr-0 o.parts))

statements_are : (n : _) (row : Row_of-Stmt n) → row_statements row ≡ statements_of (items-the_row-Stmt n row)
statements_are n end_of-Stmt = refl
statements_are n (more_of-Stmt what from to rest) = ap (cons (Stated (form_of what) from to)) (statements_are _ rest)

abbrev row_in : What → (n : Count) × Row_of-Stmt n
row_in (Block' shape row) = (_, row)
row_in _ = (_, end_of-Stmt)

-- the form of a block
pub block_form : (w : What) (v : Vec Stmt Global) → w ≡ Block v → form_of w ≡ BlockForm (statements_of v.items)
block_form w v e = let q = row_in (Block v) in ap form_of e ∙ ap BlockForm (statements_are q.0 q.1 ∙ ap statements_of (items_hidden-the_row-Stmt-0 v))
