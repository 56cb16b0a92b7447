-- Calls and assignments, by the operator of an expression.
use Rattle.std.proofs.Common.{◌≡◌, ◌≢◌, ℕ, List, [], ◌∷◌, length, cond, false, Some, None, refl, sym, ap, ◌∙◌, Box, Global}
use Rattle.cw_syntax.specs.declared.program.Name.{Name}
use Rattle.cw_syntax.specs.declared.program.Op.{Op}
use Rattle.cw_syntax.specs.declared.program.Op.TheVariants.{Call as CallOp, Assign}
use Rattle.cw_syntax.specs.declared.program.Expr.{Expr, out-Expr}
use Rattle.cw_syntax.specs.declared.program.Stmt.{Stmt}
use Rattle.cw_syntax.specs.declared.program.Head.{Head, Head'}
use Rattle.cw_syntax.specs.declared.program.What.TheVariants.{For}
use Rattle.cw_syntax.specs.Trees.{Node, Trees, Statement, tree_of, trees_of, form_of, for_of, statement_of}
use Rattle.cw_syntax.proofs.Shapes.{node_is}
use Rattle.cw_scope.proofs.Operators.{at_operator}
use Rattle.cw_detach.specs.Form.{is_among, calls_one, place_if, result_of, result_at, result_in, span_at, span_of}
use Rattle.cw_syntax.specs.Names.{text}

module _ (source : List ℕ) (names : List (List ℕ)) where
  pub calls_it : (e : Expr) (f : Name) → (out-Expr e).op ≡ CallOp f → calls_one source names (tree_of e) ≡ is_among names (text source f)
  calls_it e f is = at_operator (calls_one source names) e (CallOp f) is

  no_call : (op : Op) (ts : Trees) (a b : ℕ) → ((f : Name) → op ≢ CallOp f) → calls_one source names (Node op ts a b) ≡ false
  no_call (CallOp f) ts a b h = absurd (h f refl)
  no_call _ ts a b h = refl

  pub calls_none : (e : Expr) → ((f : Name) → (out-Expr e).op ≢ CallOp f) → calls_one source names (tree_of e) ≡ false
  calls_none e h = let o = out-Expr e in ap (calls_one source names) (node_is e) ∙ no_call o.op (trees_of o.parts.items) o.from o.to h

  pub place_is : (e : Expr) → place_if source names (tree_of e) ≡ cond (calls_one source names (tree_of e)) (Some (out-Expr e).from) None
  place_is e =
      let o = out-Expr e in
      ap (place_if source names) (node_is e) ∙ ap (λ t. cond (calls_one source names t) (Some o.from) None) (sym (node_is e))

  -- an assignment of another number of parts

  pub not_two : (es : List Expr) (a b : ℕ) → (length es ≢ 2) → result_of source names (Node (Assign 0) (trees_of es) a b) ≡ None
  not_two [] a b h = refl
  not_two (e ∷ []) a b h = refl
  not_two (e ∷ (f ∷ [])) a b h = absurd (h refl)
  not_two (e ∷ (f ∷ (g ∷ es))) a b h = refl

  none_there : (op : Op) (ts : Trees) (a b : ℕ) → ((n : ℕ) → op ≢ Assign n) → result_of source names (Node op ts a b) ≡ None
  none_there (Assign n) ts a b h = absurd (h n refl)
  none_there _ ts a b h = refl

  pub no_assignment : (e : Expr) → ((n : ℕ) → (out-Expr e).op ≢ Assign n) → result_of source names (tree_of e) ≡ None
  no_assignment e h = let o = out-Expr e in ap (result_of source names) (node_is e) ∙ none_there o.op (trees_of o.parts.items) o.from o.to h

  -- a `for` is neither
  for_result : (h : Head) (body : Statement) → result_at source names (for_of h body) ≡ None
  for_result (Head' init test step) body = refl

  pub no_result : (s : Stmt) (h : Box Head Global) (b : Box Stmt Global) → s.what ≡ For h b → result_in source names (statement_of s) ≡ None
  no_result s h b e = ap (λ w. result_at source names (form_of w)) e ∙ for_result h.value (statement_of b.value)

  for_span : (h : Head) (body : Statement) (from to : ℕ) → span_at source names (for_of h body) from to ≡ None
  for_span (Head' init test step) body from to = refl

  pub no_span : (s : Stmt) (h : Box Head Global) (b : Box Stmt Global) → s.what ≡ For h b → span_of source names (statement_of s) ≡ None
  no_span s h b e = ap (λ w. span_at source names (form_of w) s.from s.to) e ∙ for_span h.value (statement_of b.value) s.from s.to
