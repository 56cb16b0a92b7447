-- The statement of a call is a seam only where the call is of `close`.
use Rattle.std.proofs.Common.{◌≡◌, ℕ, Bool, true, false, cond, ◌&&◌, codes, Option, Some, None, refl, sym, ap, ◌∙◌, subst}
use Rattle.std.specs.Str.{bytes_eq}
use Rattle.cw_syntax.specs.declared.program.Expr.{Expr, out-Expr}
use Rattle.cw_syntax.specs.declared.program.Name.{Name}
use Rattle.cw_syntax.specs.declared.program.Op.TheVariants.{Call as CallOp}
use Rattle.cw_syntax.specs.Names.{text, number_in}
use Rattle.cw_syntax.specs.Trees.{Node, Trees, none, more, tree_of, trees_of}
use Rattle.cw_syntax.specs.Plans.{Scene, Action, Computes, action_of, call_action, closed_by}
use Rattle.cw_syntax.proofs.Shapes.{node_is}
use Rattle.cw_lemmas.proofs.Truths.{and_false}
use Rattle.cw_callgraph.specs.Forbidding.{is_seam}

where_so : (b : Bool) (a : Action) → is_seam (cond b a Computes) ≡ (b && is_seam (cond b a Computes))
where_so true a = refl
where_so false a = refl

module _ (s : Scene) (name : Name) where
  abbrev is_close : Bool
  is_close = bytes_eq (text s.source name) (codes "close")

  closed : (arguments : Trees) → is_seam (closed_by s (text s.source name) arguments) ≡ (is_close && is_seam (closed_by s (text s.source name) arguments))
  closed none = sym (and_false is_close)
  closed (more t none) = where_so is_close _
  closed (more t (more u us)) = sym (and_false is_close)

  called : (arguments : Trees) (o : Option ℕ) → is_seam (call_action s (text s.source name) arguments o) ≡ (is_close && is_seam (call_action s (text s.source name) arguments o))
  called arguments (Some g) = sym (and_false is_close)
  called arguments None = closed arguments

  only_close : (e : Expr) → (out-Expr e).op ≡ CallOp name → is_seam (action_of s (tree_of e)) ≡ (is_close && is_seam (action_of s (tree_of e)))
  only_close e is =
      let o = out-Expr e in
      let node : tree_of e ≡ Node (CallOp name) (trees_of o.parts.items) o.from o.to = node_is e ∙ ap (λ op. Node op (trees_of o.parts.items) o.from o.to) is in
      subst (λ t. is_seam (action_of s t) ≡ (is_close && is_seam (action_of s t))) (sym node) (called (trees_of o.parts.items) (number_in s.functions (text s.source name)))

  -- any other name
  pub other_call : (e : Expr) → (out-Expr e).op ≡ CallOp name → is_close ≡ false → false ≡ is_seam (action_of s (tree_of e))
  other_call e is other = sym (only_close e is ∙ ap (λ b. b && is_seam (action_of s (tree_of e))) other)
