use Rattle.std.proofs.Common.{false, ◌++◌, map, refl, ap, ◌∙◌}
use Rattle.std.specs.List.{flat_map}
use Rattle.cw_syntax.specs.Trees.{definition_of, statements_of}
use Rattle.cw_scope.specs.Walks.{body_of, nested_all}
use Rattle.cw_scope.specs.Held.{nested_of}
use Rattle.cw_scope.proofs.Pushed.{further, all_gone}
use Rattle.cw_scope.proofs.lists.put_bodies.Goals as goal

pub loop-function-preserved : goal.loop-function-preserved
loop-function-preserved c =
    let x = c.function-item.result in
    further (λ l. flat_map body_of (map definition_of l)) c.args.functions.now c.loop-function.function-index x _ _ (body_of (definition_of x)) _ c.loop-function-test.true c.function-item.is (λ ys. refl) (c.in_ok-put_statements.ensures ∙ ap (λ l. map nested_of c.loop-function.out.items ++ nested_all false (statements_of l)) c.deref.ensures.value) c.loop-function.invariant

pub returns : goal.returns
returns c = all_gone (λ l. flat_map body_of (map definition_of l)) c.args.functions.now c.loop-function.function-index _ _ refl c.loop-function-test.false c.loop-function.invariant
