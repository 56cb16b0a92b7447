-- Expressions and statements as trees, by what their fields hold.
use Rattle.std.proofs.Common.{◌≡◌, [], ◌∷◌, Vec, Box, Global, refl, sym, ap, ◌∙◌}
use Rattle.cw_syntax.specs.declared.program.Expr.{Expr, out-Expr}
use Rattle.cw_syntax.specs.declared.program.Stmt.{Stmt}
use Rattle.cw_syntax.specs.declared.program.Head.{Head, Head'}
use Rattle.cw_syntax.specs.declared.program.What.{What}
use Rattle.cw_syntax.specs.declared.program.What.TheVariants.{Block, For}
use Rattle.cw_syntax.specs.Trees.{just, tree_of, trees_of, Statement, form_of, for_of, statement_of, statements_of}
use Rattle.cw_syntax.proofs.Shapes.{node_is, block_form}
use Rattle.std.specs.Prelude.{Bool, true, false, not, ◌&&◌, None}
use Rattle.cw_scope.specs.Rules.{is_jump, loose_jump, at_if}
use Rattle.cw_scope.specs.Names.{names_in, init_names, label_in, label_of}
use Rattle.cw_scope.specs.Walks.{nodes, nodes_in, nested, nested_within, nested_all, init_trees_in, init_trees}

pub nodes_of : (e : Expr) → nodes (tree_of e) ≡ tree_of e ∷ nodes_in (trees_of (out-Expr e).parts.items)
nodes_of e =
    let parts = nodes_in (trees_of (out-Expr e).parts.items) in
    ap nodes (node_is e) ∙ ap (λ t. t ∷ parts) (sym (node_is e))

-- a block, by its statements
pub block_nested : (looped : Bool) (w : What) (v : Vec Stmt Global) → w ≡ Block v → nested_within looped (form_of w) ≡ nested_all looped (statements_of v.items)
block_nested looped w v e = ap (nested_within looped) (block_form w v e)

-- a `for`, by its body
nested_for : (looped : Bool) (h : Head) (body : Statement) → nested_within looped (for_of h body) ≡ nested true body
nested_for looped (Head' init test step) body = refl

pub for_nested : (looped : Bool) (w : What) (h : Box Head Global) (b : Box Stmt Global) → w ≡ For h b → nested_within looped (form_of w) ≡ nested true (statement_of b.value)
for_nested looped w h b e = ap (λ w. nested_within looped (form_of w)) e ∙ nested_for looped h.value (statement_of b.value)

for_init : (h : Head) (body : Statement) → init_trees_in (for_of h body) ≡ []
for_init (Head' init test step) body = refl

pub no_init_trees : (s : Stmt) (h : Box Head Global) (b : Box Stmt Global) → s.what ≡ For h b → init_trees (just (statement_of s)) ≡ []
no_init_trees s h b e = ap (λ w. init_trees_in (form_of w)) e ∙ for_init h.value (statement_of b.value)

for_names : (h : Head) (body : Statement) → names_in (for_of h body) ≡ []
for_names (Head' init test step) body = refl

pub no_init_names : (s : Stmt) (h : Box Head Global) (b : Box Stmt Global) → s.what ≡ For h b → init_names (just (statement_of s)) ≡ []
no_init_names s h b e = ap (λ w. names_in (form_of w)) e ∙ for_names h.value (statement_of b.value)

for_label : (h : Head) (body : Statement) → label_in (for_of h body) ≡ []
for_label (Head' init test step) body = refl

pub no_label : (s : Stmt) (h : Box Head Global) (b : Box Stmt Global) → s.what ≡ For h b → label_of (statement_of s) ≡ []
no_label s h b e = ap (λ w. label_in (form_of w)) e ∙ for_label h.value (statement_of b.value)

for_jump : (h : Head) (body : Statement) → is_jump (for_of h body) ≡ false
for_jump (Head' init test step) body = refl

pub no_jump : (looped : Bool) (s : Stmt) (h : Box Head Global) (b : Box Stmt Global) → s.what ≡ For h b → loose_jump looped (statement_of s) ≡ None
no_jump looped s h b e = ap (λ j. at_if (j && not looped) s.from) (ap (λ w. is_jump (form_of w)) e ∙ for_jump h.value (statement_of b.value))
