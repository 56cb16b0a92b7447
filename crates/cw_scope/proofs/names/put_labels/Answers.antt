use Rattle.std.proofs.Common.{map, refl}
use Rattle.cw_scope.specs.Names.{labels_of, label_of}
use Rattle.cw_scope.specs.Held.{nested_of}
use Rattle.cw_scope.proofs.Pushed.{further, all_gone}
use Rattle.cw_scope.proofs.names.put_labels.Goals as goal

pub loop-nested-preserved : goal.loop-nested-preserved
loop-nested-preserved c =
    let x = c.nested-item.result in
    further (λ l. labels_of (map nested_of l)) c.args.statements.now c.loop-nested.nested-index x _ _ (label_of (nested_of x).statement) _ c.loop-nested-test.true c.nested-item.is (λ ys. refl) (c.in_ok-put_label.ensures) c.loop-nested.invariant

pub returns : goal.returns
returns c = all_gone (λ l. labels_of (map nested_of l)) c.args.statements.now c.loop-nested.nested-index _ _ refl c.loop-nested-test.false c.loop-nested.invariant
