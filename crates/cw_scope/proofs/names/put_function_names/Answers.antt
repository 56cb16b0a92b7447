use Rattle.std.proofs.Common.{[], ◌∷◌, map, refl}
use Rattle.cw_syntax.specs.Trees.{definition_of}
use Rattle.cw_scope.proofs.Pushed.{further, all_gone}
use Rattle.cw_scope.proofs.names.put_function_names.Goals as goal

pub loop-function-preserved : goal.loop-function-preserved
loop-function-preserved c =
    let x = c.function-item.result in
    further (λ l. map (λ n. n.name) (map definition_of l)) c.args.functions.now c.loop-function.function-index x _ _ (x.name ∷ []) _ c.loop-function-test.true c.function-item.is (λ ys. refl) (c.in_ok-push.ensures.items) c.loop-function.invariant

pub returns : goal.returns
returns c = all_gone (λ l. map (λ n. n.name) (map definition_of l)) c.args.functions.now c.loop-function.function-index _ _ refl c.loop-function-test.false c.loop-function.invariant
