-- Parts of expressions, as they are held.
use Rattle.std.proofs.Common.{◌≡◌, ℕ, ◌<◌, ◌≤◌, List, [], ◌∷◌, length, get_or, false, refl, sym, ap, ◌∙◌, arith}
use Rattle.std.specs.Prelude.{nat_eq}
use Rattle.cw_syntax.specs.declared.program.Op.TheVariants.{Call as CallOp}
use Rattle.cw_syntax.specs.declared.program.Name.{Name}
use Rattle.cw_syntax.specs.declared.program.Expr.{Expr, out-Expr}
use Rattle.cw_syntax.specs.Trees.{Tree, Node, more, none, tree_of, trees_of}
use Rattle.cw_syntax.proofs.Shapes.{node_is}
use Rattle.cw_worlds.specs.Forks.{calls_fork, is_fork_operand}

pub one_part : (source : List ℕ) (parts : List Expr) (e : Expr) → 1 ≤ length parts → length parts < 2 → e ≡ get_or parts 0 e
    → is_fork_operand source (trees_of parts) ≡ calls_fork source (out-Expr e).op (trees_of (out-Expr e).parts.items)
one_part source [] e some few is = absurd (omega (arith, some))
one_part source (x ∷ []) e some few is = ap (λ (y : Expr). is_fork_operand source (more (tree_of y) none)) (sym is) ∙ ap (λ t. is_fork_operand source (more t none)) (node_is e)
one_part source (x ∷ y ∷ parts) e some few is = absurd (omega (arith, few))

-- more parts than one
pub many_parts : (source : List ℕ) (parts : List Expr) → 2 ≤ length parts → is_fork_operand source (trees_of parts) ≡ false
many_parts source [] many = absurd (omega (arith, many))
many_parts source (x ∷ []) many = absurd (omega (arith, many))
many_parts source (x ∷ y ∷ parts) many = on (tree_of x) (tree_of y)
  where
    on : (t u : Tree) → is_fork_operand source (more t (more u (trees_of parts))) ≡ false
    on (Node op ps from to) u = refl

-- arguments
pub with_arguments : (source : List ℕ) (f : Name) (parts : List Expr) → nat_eq (length parts) 0 ≡ false → calls_fork source (CallOp f) (trees_of parts) ≡ false
with_arguments source f [] e = cc
with_arguments source f (x ∷ parts) e = refl
