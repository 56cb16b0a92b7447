-- Blocks and `for` loops declare nothing themselves.
use Rattle.std.proofs.Common.{◌≡◌, [], Box, Global, refl, ap, ◌∙◌}
use Rattle.cw_syntax.specs.declared.program.Stmt.{Stmt}
use Rattle.cw_syntax.specs.declared.program.Head.{Head, Head'}
use Rattle.cw_syntax.specs.declared.program.What.TheVariants.{For}
use Rattle.cw_syntax.specs.Trees.{Statement, form_of, for_of, statement_of}
use Rattle.cw_value.specs.Starts.{owns_by, owns_in}

for_owns : (h : Head) (body : Statement) → owns_in (for_of h body) ≡ []
for_owns (Head' init test step) body = refl

pub no_for : (s : Stmt) (h : Box Head Global) (b : Box Stmt Global) → s.what ≡ For h b → owns_by (statement_of s) ≡ []
no_for s h b e = ap (λ w. owns_in (form_of w)) e ∙ for_owns h.value (statement_of b.value)
