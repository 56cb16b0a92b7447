-- The call of a whole statement, by the operator and the parts of its expression.
use Rattle.std.proofs.Common.{◌≡◌, ◌≢◌, ℕ, List, [], ◌∷◌, Some, None, length, refl, sym, ap, ap₂, ◌∙◌}
use Rattle.cw_syntax.specs.declared.program.Name.{Name}
use Rattle.cw_syntax.specs.declared.program.Op.{Op}
use Rattle.cw_syntax.specs.declared.program.Op.TheVariants.{Name as NameOp, Call as CallOp, Assign}
use Rattle.cw_syntax.specs.declared.program.Expr.{Expr, out-Expr}
use Rattle.cw_syntax.specs.Trees.{Tree, Node, Trees, none, more, tree_of, trees_of}
use Rattle.cw_scope.specs.Rules.{statement_call}
use Rattle.cw_scope.proofs.Operators.{at_operator}
use Rattle.cw_syntax.proofs.Shapes.{node_is}

pub calls_itself : (e : Expr) (f : Name) → (out-Expr e).op ≡ CallOp f → statement_call (tree_of e) ≡ Some (tree_of e)
calls_itself e f is =
    let o = out-Expr e in
    at_operator statement_call e (CallOp f) is ∙ sym (ap Some (at_operator (λ t. t) e (CallOp f) is))

none_there : (op : Op) (ts : Trees) (a b : ℕ) → ((f : Name) → op ≢ CallOp f) → ((n : ℕ) → op ≢ Assign n) → statement_call (Node op ts a b) ≡ None
none_there (CallOp f) ts a b h k = absurd (h f refl)
none_there (Assign n) ts a b h k = absurd (k n refl)
none_there _ ts a b h k = refl

pub no_statement_call : (e : Expr) → ((f : Name) → (out-Expr e).op ≢ CallOp f) → ((n : ℕ) → (out-Expr e).op ≢ Assign n) → statement_call (tree_of e) ≡ None
no_statement_call e h k = let o = out-Expr e in ap statement_call (node_is e) ∙ none_there o.op (trees_of o.parts.items) o.from o.to h k

-- an assignment whose first part is no name, and one whose second is no call

other_first : (op : Op) (qs : Trees) (c d : ℕ) (rest : Trees) (a b : ℕ) → (op ≢ NameOp) → statement_call (Node (Assign 0) (more (Node op qs c d) rest) a b) ≡ None
other_first NameOp qs c d rest a b h = absurd (h refl)
other_first (CallOp f) qs c d rest a b h = refl
other_first _ qs c d rest a b h = refl

pub first_is_other : (x : Expr) (rest : Trees) (a b : ℕ) → ((out-Expr x).op ≢ NameOp) → statement_call (Node (Assign 0) (more (tree_of x) rest) a b) ≡ None
first_is_other x rest a b h =
    let o = out-Expr x in
    ap (λ t. statement_call (Node (Assign 0) (more t rest) a b)) (node_is x) ∙ other_first o.op (trees_of o.parts.items) o.from o.to rest a b h

other_second : (qs : Trees) (c d : ℕ) (op : Op) (rs : Trees) (e f : ℕ) (a b : ℕ) → ((g : Name) → op ≢ CallOp g)
    → statement_call (Node (Assign 0) (more (Node NameOp qs c d) (more (Node op rs e f) none)) a b) ≡ None
other_second qs c d (CallOp g) rs e f a b h = absurd (h g refl)
other_second qs c d _ rs e f a b h = refl

pub second_is_other : (x value : Expr) (a b : ℕ) → (out-Expr x).op ≡ NameOp → ((g : Name) → (out-Expr value).op ≢ CallOp g)
    → statement_call (Node (Assign 0) (more (tree_of x) (more (tree_of value) none)) a b) ≡ None
second_is_other x value a b is h =
    let o = out-Expr x in
    let u = out-Expr value in
    ap₂ (λ t v. statement_call (Node (Assign 0) (more t (more v none)) a b)) (at_operator (λ t. t) x NameOp is) (node_is value)
    ∙ other_second (trees_of o.parts.items) o.from o.to u.op (trees_of u.parts.items) u.from u.to a b h

pub assigns : (x value : Expr) (f : Name) (a b : ℕ) → (out-Expr x).op ≡ NameOp → (out-Expr value).op ≡ CallOp f
    → statement_call (Node (Assign 0) (more (tree_of x) (more (tree_of value) none)) a b) ≡ Some (tree_of value)
assigns x value f a b is calls =
    ap₂ (λ t v. statement_call (Node (Assign 0) (more t (more v none)) a b)) (at_operator (λ t. t) x NameOp is) (at_operator (λ t. t) value (CallOp f) calls)
    ∙ sym (ap Some (at_operator (λ t. t) value (CallOp f) calls))

one_part : (op : Op) (qs : Trees) (c d a b : ℕ) → statement_call (Node (Assign 0) (more (Node op qs c d) none) a b) ≡ None
one_part NameOp qs c d a b = refl
one_part _ qs c d a b = refl

three_parts : (op op' : Op) (qs rs : Trees) (c d e f : ℕ) (v : Tree) (rest : Trees) (a b : ℕ)
    → statement_call (Node (Assign 0) (more (Node op qs c d) (more (Node op' rs e f) (more v rest))) a b) ≡ None
three_parts NameOp (CallOp g) qs rs c d e f v rest a b = refl
three_parts NameOp _ qs rs c d e f v rest a b = refl
three_parts _ op' qs rs c d e f v rest a b = refl

pub not_two : (es : List Expr) (a b : ℕ) → (length es ≢ 2) → statement_call (Node (Assign 0) (trees_of es) a b) ≡ None
not_two [] a b h = refl
not_two (e ∷ []) a b h = let o = out-Expr e in ap (λ t. statement_call (Node (Assign 0) (more t none) a b)) (node_is e) ∙ one_part o.op (trees_of o.parts.items) o.from o.to a b
not_two (e ∷ (f ∷ [])) a b h = absurd (h refl)
not_two (e ∷ (f ∷ (g ∷ es))) a b h =
    let o = out-Expr e in
    let u = out-Expr f in
    ap₂ (λ t v. statement_call (Node (Assign 0) (more t (more v (more (tree_of g) (trees_of es)))) a b)) (node_is e) (node_is f)
    ∙ three_parts o.op u.op (trees_of o.parts.items) (trees_of u.parts.items) o.from o.to u.from u.to (tree_of g) (trees_of es) a b
