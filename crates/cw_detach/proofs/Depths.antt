-- How deep statements nest, compared with a bound.
use Rattle.std.proofs.Common.{◌≡◌, ◌≢◌, ℕ, zero, suc, ◌+◌, ◌-◌, nat_le, refl, ap, Vec, Global, List}
use Rattle.std.proofs.Common.{arith}
use Rattle.std.proofs.lemmas.Bool.Decides.{nat_tests}
use Rattle.cw_syntax.specs.declared.program.Stmt.{Stmt}
use Rattle.cw_syntax.specs.declared.program.What.TheVariants.{Block}
use Rattle.cw_syntax.specs.Trees.{statement_of, statements_of}
use Rattle.cw_syntax.proofs.Shapes.{block_form}
use Rattle.cw_detach.specs.Form.{nesting, nesting_in, nesting_all}

pub one_more : (n most : ℕ) → most ≢ 0 → nat_le n (most - 1) ≡ nat_le (n + 1) most
one_more n zero h = absurd (h refl)
one_more n (suc most) h = grind (arith, nat_tests)

pub block_nests : (source : List ℕ) (names : List (List ℕ)) (s : Stmt) (kids : Vec Stmt Global) → s.what ≡ Block kids
    → nesting source names (statement_of s) ≡ nesting_all source names (statements_of kids.items) + 1
block_nests source names s kids e = ap (nesting_in source names) (block_form s.what kids e)
