-- The trees of expressions that hold vectors, by their fields.
use Rattle.std.proofs.Common.{◌≡◌, List, [], ◌∷◌, ap, refl, map, ◌∙◌}
use Rattle.std.specs.Global.{Vec}
use Rattle.cw_syntax.specs.declared.program.Expr.{Expr, Expr-F, roll-Expr, rolls-Expr', Row_of-Expr, end_of-Expr, more_of-Expr, items-the_row-Expr, items_hidden-the_row-Expr-0}
use Rattle.cw_syntax.specs.declared.program.Expr.TheBlock.{hidden-the_row-Expr-0}
use Rattle.cw_syntax.specs.Trees.{Trees, Node, more, tree_of, row_trees, trees_of}
use Rattle.cw_grammar.specs.Lexemes.{trees}

pub trees_map : (es : List Expr) → trees_of es ≡ trees (map tree_of es)
trees_map [] = refl
trees_map (e ∷ es) = ap (more (tree_of e)) (trees_map es)

row_is : {m : _} (r : Row_of-Expr m) → row_trees r ≡ trees_of (items-the_row-Expr _ r)
row_is end_of-Expr = refl
row_is (more_of-Expr e rest) = ap (more (tree_of e)) (row_is rest)

parts_are : (v : Vec Expr) → row_trees (hidden-the_row-Expr-0 v) ≡ trees (map tree_of v.items)
parts_are v = row_is (hidden-the_row-Expr-0 v) ∙ ap trees_of (items_hidden-the_row-Expr-0 v) ∙ trees_map v.items

-- the tree of an expression by its fields
pub tree_of_roll : (r : Expr-F Expr) → tree_of (roll-Expr r) ≡ Node r.op (trees (map tree_of r.parts.items)) r.from r.to
tree_of_roll r = ap tree_of (rolls-Expr' r) ∙ ap (λ (k : Trees). Node r.op k r.from r.to) (parts_are r.parts)
