-- The labels of a block and of a `for`, by what the statement holds.
use Rattle.std.proofs.Common.{◌≡◌, Vec, Box, Global, refl, ap, ◌∙◌}
use Rattle.cw_syntax.specs.declared.program.Stmt.{Stmt}
use Rattle.cw_syntax.specs.declared.program.Head.{Head, Head'}
use Rattle.cw_syntax.specs.declared.program.What.TheVariants.{Block, For}
use Rattle.cw_syntax.specs.Trees.{Statement, form_of, for_of, statement_of, statements_of}
use Rattle.cw_syntax.proofs.Shapes.{block_form}
use Rattle.cw_resolve.specs.Labels.{labels_of, labels_in, labels_of_all}

pub block_labels : (s : Stmt) (v : Vec Stmt Global) → s.what ≡ Block v → labels_of (statement_of s) ≡ labels_of_all (statements_of v.items)
block_labels s v e = ap labels_in (block_form s.what v e)

labels_for : (h : Head) (body : Statement) → labels_in (for_of h body) ≡ labels_of body
labels_for (Head' init test step) body = refl

pub for_labels : (s : Stmt) (h : Box Head Global) (b : Box Stmt Global) → s.what ≡ For h b → labels_of (statement_of s) ≡ labels_of (statement_of b.value)
for_labels s h b e = ap (λ w. labels_in (form_of w)) e ∙ labels_for h.value (statement_of b.value)
