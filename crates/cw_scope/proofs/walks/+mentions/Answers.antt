use Rattle.std.proofs.Common.{◌≡◌, ◌++◌, [], map, append-nil, eqb-true, refl, ap, ap₂, sym, ◌∙◌, subst}
use Rattle.std.specs.Result.{IfOk}
use Rattle.std.proofs.lemmas.List.{append_assoc, nil_from_length}
use Rattle.cw_syntax.specs.declared.program.Expr.{out-Expr}
use Rattle.cw_syntax.specs.Trees.{tree_of, trees_of}
use Rattle.cw_scope.specs.Held.{tree_at}
use Rattle.cw_scope.specs.Mentions.{own_name, own_call, names_at, calls_at, names_all, calls_all}
use Rattle.cw_scope.proofs.Pushed.{further, all_gone}
use Rattle.cw_scope.proofs.Mentioned.{names_of, calls_of}
use Rattle.cw_scope.proofs.walks.+mentions.Goals as goal

pub put_mentions-returns-then-is_empty : goal.put_mentions-returns-then-is_empty
put_mentions-returns-then-is_empty t c =
    let e = c.args.e.now in
    let parts = (out-Expr e).parts in
    let none : parts.items ≡ [] = nil_from_length parts.items (sym parts.ok.0 ∙ eqb-true _ 0 (sym c.if-is_empty.ensures)) in
    record {
      names = c.in_ok-put_name.ensures ∙ ap (λ l. c.args.names.now.items ++ l)
          (sym (names_of e ∙ ap (λ ps. own_name (tree_of e) ++ names_all (trees_of ps)) none ∙ append-nil (own_name (tree_of e))));
      calls = c.in_ok-put_call.ensures ∙ ap (λ l. map tree_at c.args.calls.now.items ++ l)
          (sym (calls_of e ∙ ap (λ ps. own_call (tree_of e) ++ calls_all (trees_of ps)) none ∙ append-nil (own_call (tree_of e))));
    }

pub put_mentions-returns : goal.put_mentions-returns
put_mentions-returns t c =
    let e = c.args.e.now in
    let parts = (out-Expr e).parts.items in
    let old_names = c.args.names.now.items in
    let old_calls = map tree_at c.args.calls.now.items in
    let names =
    ap₂ (λ l ps. l ++ names_all (trees_of ps)) c.in_ok-put_name.ensures c.deref.ensures.value
    ∙ append_assoc old_names (own_name (tree_of e)) (names_all (trees_of parts))
    ∙ ap (λ l. old_names ++ l) (sym (names_of e))
    in
    let calls =
    ap₂ (λ l ps. l ++ calls_all (trees_of ps)) c.in_ok-put_call.ensures c.deref.ensures.value
    ∙ append_assoc old_calls (own_call (tree_of e)) (calls_all (trees_of parts))
    ∙ ap (λ l. old_calls ++ l) (sym (calls_of e))
    in
    record {
      names = subst (λ l. IfOk c.put_all_mentions.result (λ _. c.put_all_mentions.new.names.items ≡ l)) names c.put_all_mentions.ensures.names;
      calls = subst (λ l. IfOk c.put_all_mentions.result (λ _. map tree_at c.put_all_mentions.new.calls.items ≡ l)) calls c.put_all_mentions.ensures.calls;
    }

pub put_all_mentions-loop-e-preserved : goal.put_all_mentions-loop-e-preserved
put_all_mentions-loop-e-preserved t c =
    let x = c.e-item.result in
    record {
      names = further (λ l. names_all (trees_of l)) c.args.parts.now c.loop-e.e-index x _ _ (names_at (tree_of x)) _ c.loop-e-test.true c.e-item.is (λ ys. refl) c.in_ok-put_mentions.ensures.names
          c.loop-e.invariant.names;
      calls = further (λ l. calls_all (trees_of l)) c.args.parts.now c.loop-e.e-index x _ _ (calls_at (tree_of x)) _ c.loop-e-test.true c.e-item.is (λ ys. refl) c.in_ok-put_mentions.ensures.calls
          c.loop-e.invariant.calls;
    }

pub put_all_mentions-returns : goal.put_all_mentions-returns
put_all_mentions-returns t c =
    record {
      names = all_gone (λ l. names_all (trees_of l)) c.args.parts.now c.loop-e.e-index _ _ refl c.loop-e-test.false c.loop-e.invariant.names;
      calls = all_gone (λ l. calls_all (trees_of l)) c.args.parts.now c.loop-e.e-index _ _ refl c.loop-e-test.false c.loop-e.invariant.calls;
    }
