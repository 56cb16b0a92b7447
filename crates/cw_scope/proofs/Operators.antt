-- What an expression is, by its operator.
use Rattle.std.proofs.Common.{◌≡◌, ◌≢◌, ℕ, ◌+◌, List, [], ◌∷◌, length, Bool, false, None, refl, ap, ◌∙◌, add-one}
use Rattle.cw_syntax.specs.declared.program.Name.{Name}
use Rattle.cw_syntax.specs.declared.program.Op.{Op}
use Rattle.cw_syntax.specs.declared.program.Op.TheVariants.{Name as NameOp, Call as CallOp, Prefix, Suffix, Assign}
use Rattle.cw_syntax.specs.declared.program.Expr.{Expr, out-Expr}
use Rattle.cw_syntax.specs.Trees.{Tree, Node, Trees, tree_of, trees_of, parts_of, count}
use Rattle.cw_scope.specs.Names.{plain_name, called_name}
use Rattle.cw_syntax.specs.Trees.{File}
use Rattle.cw_scope.specs.Rules.{call_if, is_call, wrong_arity}
use Rattle.cw_syntax.specs.Plans.{Scene}
use Rattle.cw_scope.specs.Descriptors.{names_variable, misuse}
use Rattle.cw_syntax.proofs.Shapes.{node_is}

-- a function of an expression, at the operator that it has
pub at_operator : {A : Type 0} (f : Tree → A) (e : Expr) (op : Op) → (out-Expr e).op ≡ op → f (tree_of e) ≡ f (Node op (trees_of (out-Expr e).parts.items) (out-Expr e).from (out-Expr e).to)
at_operator f e op is =
    let o = out-Expr e in
    ap f (node_is e) ∙ ap (λ op. f (Node op (trees_of o.parts.items) o.from o.to)) is

not_plain : (op : Op) (ts : Trees) (from to : ℕ) → (op ≢ NameOp) → plain_name (Node op ts from to) ≡ None
not_plain NameOp ts from to n = absurd (n refl)
not_plain _ ts from to n = refl

pub isnt_plain : (e : Expr) → ((out-Expr e).op ≢ NameOp) → plain_name (tree_of e) ≡ None
isnt_plain e n = let o = out-Expr e in ap plain_name (node_is e) ∙ not_plain o.op (trees_of o.parts.items) o.from o.to n

not_called : (op : Op) (ts : Trees) (from to : ℕ) → ((f : Name) → op ≢ CallOp f) → called_name (Node op ts from to) ≡ None
not_called (CallOp f) ts from to n = absurd (n f refl)
not_called _ ts from to n = refl

pub isnt_called : (e : Expr) → ((f : Name) → (out-Expr e).op ≢ CallOp f) → called_name (tree_of e) ≡ None
isnt_called e n = let o = out-Expr e in ap called_name (node_is e) ∙ not_called o.op (trees_of o.parts.items) o.from o.to n

not_if : (test : Name → Bool) (op : Op) (ts : Trees) (from to : ℕ) → ((f : Name) → op ≢ CallOp f) → call_if test (Node op ts from to) ≡ None
not_if test (CallOp f) ts from to n = absurd (n f refl)
not_if test _ ts from to n = refl

pub isnt_if : (test : Name → Bool) (e : Expr) → ((f : Name) → (out-Expr e).op ≢ CallOp f) → call_if test (tree_of e) ≡ None
isnt_if test e n = let o = out-Expr e in ap (call_if test) (node_is e) ∙ not_if test o.op (trees_of o.parts.items) o.from o.to n

not_call : (op : Op) (ts : Trees) (from to : ℕ) → ((f : Name) → op ≢ CallOp f) → is_call (Node op ts from to) ≡ false
not_call (CallOp f) ts from to n = absurd (n f refl)
not_call _ ts from to n = refl

pub isnt_call : (e : Expr) → ((f : Name) → (out-Expr e).op ≢ CallOp f) → is_call (tree_of e) ≡ false
isnt_call e n = let o = out-Expr e in ap is_call (node_is e) ∙ not_call o.op (trees_of o.parts.items) o.from o.to n

not_wrong : (source : List ℕ) (file : File) (op : Op) (ts : Trees) (from to : ℕ) → ((f : Name) → op ≢ CallOp f) → wrong_arity source file (Node op ts from to) ≡ None
not_wrong source file (CallOp f) ts from to n = absurd (n f refl)
not_wrong source file _ ts from to n = refl

pub isnt_wrong : (source : List ℕ) (file : File) (e : Expr) → ((f : Name) → (out-Expr e).op ≢ CallOp f) → wrong_arity source file (tree_of e) ≡ None
isnt_wrong source file e n = let o = out-Expr e in ap (wrong_arity source file) (node_is e) ∙ not_wrong source file o.op (trees_of o.parts.items) o.from o.to n

-- how many parts there are
pub counted : (es : List Expr) → count (trees_of es) ≡ length es
counted [] = refl
counted (e ∷ es) = ap (λ n. n + 1) (counted es) ∙ add-one (length es)

pub parts_are : (e : Expr) → parts_of (tree_of e) ≡ trees_of (out-Expr e).parts.items
parts_are e = ap parts_of (node_is e)

-- an expression that is no name
not_variable : (s : Scene) (op : Op) (ts : Trees) (from to : ℕ) → (op ≢ NameOp) → names_variable s (Node op ts from to) ≡ false
not_variable s NameOp ts from to n = absurd (n refl)
not_variable s _ ts from to n = refl

pub isnt_variable : (s : Scene) (e : Expr) → ((out-Expr e).op ≢ NameOp) → names_variable s (tree_of e) ≡ false
isnt_variable s e n = let o = out-Expr e in ap (names_variable s) (node_is e) ∙ not_variable s o.op (trees_of o.parts.items) o.from o.to n

not_misuse : (s : Scene) (op : Op) (ts : Trees) (from to : ℕ) → ((n : ℕ) → op ≢ Assign n) → ((n : ℕ) → op ≢ Prefix n) → ((n : ℕ) → op ≢ Suffix n) → ((f : Name) → op ≢ CallOp f)
    → misuse s (Node op ts from to) ≡ None
not_misuse s (Assign n) ts from to a p u c = absurd (a n refl)
not_misuse s (Prefix n) ts from to a p u c = absurd (p n refl)
not_misuse s (Suffix n) ts from to a p u c = absurd (u n refl)
not_misuse s (CallOp f) ts from to a p u c = absurd (c f refl)
not_misuse s _ ts from to a p u c = refl

pub isnt_misuse : (s : Scene) (e : Expr) → ((n : ℕ) → (out-Expr e).op ≢ Assign n) → ((n : ℕ) → (out-Expr e).op ≢ Prefix n) → ((n : ℕ) → (out-Expr e).op ≢ Suffix n)
    → ((f : Name) → (out-Expr e).op ≢ CallOp f) → misuse s (tree_of e) ≡ None
isnt_misuse s e a p u c = let o = out-Expr e in ap (misuse s) (node_is e) ∙ not_misuse s o.op (trees_of o.parts.items) o.from o.to a p u c
