-- Initialisers of a descriptor's variable.
use Rattle.std.proofs.Common.{◌≡◌, ◌≢◌, ◌≤◌, ℕ, Bool, false, ◌&&◌, List, [], ◌∷◌, length, get_or, refl, sym, ap, ◌∙◌, arith}
use Rattle.cw_syntax.specs.declared.program.Op.{Op}
use Rattle.cw_syntax.specs.declared.program.Expr.{Expr, out-Expr}
use Rattle.cw_syntax.specs.Trees.{Node, none, more, tree_of, trees_of, op_of}
use Rattle.cw_scope.specs.Walks.{listed}
use Rattle.cw_scope.specs.Descriptors.{is_minus, is_number, is_minus_one, is_start}
use Rattle.cw_syntax.proofs.Shapes.{node_is}

pub minus_one_of : (op : Op) (es : List Expr) (x : Expr) (a b : ℕ) → length es ≡ 1 → x ≡ get_or es 0 x → is_minus_one (Node op (trees_of es) a b) ≡ (is_minus op && is_number 1 (out-Expr x).op)
minus_one_of op [] x a b n e = absurd (cc)
minus_one_of op (y ∷ []) x a b n e = ap (λ z. is_minus_one (Node op (more (tree_of z) none) a b)) (sym e) ∙ ap (λ t. is_minus op && is_number 1 (op_of t)) (node_is x)
minus_one_of op (y ∷ (z ∷ es)) x a b n e = absurd (omega arith)

pub not_one : (op : Op) (es : List Expr) (a b : ℕ) → (length es ≢ 1) → is_minus_one (Node op (trees_of es) a b) ≡ false
not_one op [] a b n = refl
not_one op (y ∷ []) a b n = absurd (n refl)
not_one op (y ∷ (z ∷ es)) a b n = refl

pub long_start : (braces : Bool) (es : List Expr) → 2 ≤ length es → is_start braces (listed (trees_of es)) ≡ false
long_start braces [] n = absurd (omega arith)
long_start braces (y ∷ []) n = absurd (omega arith)
long_start braces (y ∷ (z ∷ es)) n = refl
