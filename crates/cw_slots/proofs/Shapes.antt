-- Blocks and `for` loops by what their fields hold, and lists with one element more.
use Rattle.std.proofs.Common.{◌≡◌, ◌++◌, ℕ, [], Vec, Box, Global, refl, ap, ◌∙◌, Some}
use Rattle.cw_syntax.specs.declared.program.Stmt.{Stmt}
use Rattle.cw_syntax.specs.declared.program.Head.{Head, Head', Head-init-None', Head-init-Some', out-Head}
use Rattle.cw_syntax.specs.declared.program.What.{What}
use Rattle.cw_syntax.specs.declared.program.What.TheVariants.{Block, For}
use Rattle.cw_syntax.specs.Trees.{Statement, form_of, for_of, statement_of, statements_of, perhaps_of}
use Rattle.cw_syntax.proofs.Shapes.{block_form}
use Rattle.cw_value.specs.Deeds.{init_in, said, said_all, said_in, said_init}

pub block_said : (w : What) (v : Vec Stmt Global) → w ≡ Block v → said_in (form_of w) ≡ said_all (statements_of v.items)
block_said w v e = ap said_in (block_form w v e)

head_init : (h : Head) (body : Statement) → said_in (for_of h body) ≡ said_init (perhaps_of (out-Head h).init) ++ said body
unfolding out-Head denote.Hole.Carrier.out
head_init (Head' Head-init-None' test step) body = refl
head_init (Head' (Head-init-Some' what from to) test step) body = refl

pub for_said : (w : What) (h : Box Head Global) (b : Box Stmt Global) → w ≡ For h b →
    said_in (form_of w) ≡ said_init (perhaps_of (out-Head h.value).init) ++ said (statement_of b.value)
for_said w h b e = ap (λ w. said_in (form_of w)) e ∙ head_init h.value (statement_of b.value)

for_init : (h : Head) (body : Statement) (from to : ℕ) → init_in (for_of h body) from to ≡ []
for_init (Head' init test step) body from to = refl

pub no_init : (s : Stmt) (h : Box Head Global) (b : Box Stmt Global) → s.what ≡ For h b → said_init (perhaps_of (Some s)) ≡ []
no_init s h b e = ap (λ w. init_in (form_of w) s.from s.to) e ∙ for_init h.value (statement_of b.value) s.from s.to
