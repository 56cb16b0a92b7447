use Rattle.std.proofs.Common.{◌≡◌, ◌++◌, sym, ap, ap₂, ◌∙◌, subst, append_assoc}
use Rattle.std.specs.Result.{IfOk}
use Rattle.cw_syntax.specs.declared.program.Expr.{out-Expr}
use Rattle.cw_syntax.specs.Trees.{trees_of}
use Rattle.cw_callgraph.specs.Forbidding.{place_if, places_in, first_role, forbids_itself}
use Rattle.cw_callgraph.proofs.Nodes.{places_are}
use Rattle.cw_callgraph.proofs.expressions.+places.Goals as goal

pub put_places-returns : goal.put_places-returns
put_places-returns t c =
    let s = c.args.scope.now in
    let source = s.source.now in
    let file = s.file.now in
    let inner = s.inner.now in
    let role = c.args.role in
    let e = c.args.e.now in
    let o = out-Expr e in
    let out = c.args.out.now.items in
    let mid = c.put_if.new.out.items in
    let first = first_role role o.op in
    let parts = trees_of o.parts.items in
    let is =
    ap₂ (λ r l. mid ++ places_in source file inner r (trees_of l)) c.first_role.ensures c.deref-2.ensures.value
    ∙ ap (λ l. l ++ places_in source file inner first parts)
    (c.in_ok-put_if.ensures ∙ ap (λ b. out ++ place_if b o.from) (c.forbids_itself-forbids.ensures ∙ ap (λ l. forbids_itself source file inner role o.op (trees_of l) o.from o.to) c.deref.ensures.value))
    ∙ append_assoc out (place_if (forbids_itself source file inner role o.op parts o.from o.to) o.from) (places_in source file inner first parts)
    ∙ ap (λ l. out ++ l) (sym (places_are source file inner role e))
    in
    subst (λ l. IfOk c.put_places_in.result (λ _. c.put_places_in.new.out.items ≡ l)) is c.put_places_in.ensures
