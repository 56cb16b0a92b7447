use Rattle.std.proofs.Common.{map, refl}
use Rattle.std.specs.List.{flat_map}
use Rattle.cw_scope.specs.Descriptors.{used}
use Rattle.cw_scope.specs.Held.{whole_of}
use Rattle.cw_scope.proofs.Pushed.{further, all_gone}
use Rattle.cw_scope.proofs.misuses.put_all_used.Goals as goal

pub loop-whole-preserved : goal.loop-whole-preserved
loop-whole-preserved c =
    let x = c.whole-item.result in
    further (λ l. flat_map (used c.args.scene.now) (map whole_of l)) c.args.wholes.now c.loop-whole.whole-index x _ _ (used c.args.scene.now (whole_of x)) _ c.loop-whole-test.true c.whole-item.is (λ ys. refl) (c.in_ok-put_used.ensures) c.loop-whole.invariant

pub returns : goal.returns
returns c = all_gone (λ l. flat_map (used c.args.scene.now) (map whole_of l)) c.args.wholes.now c.loop-whole.whole-index _ _ refl c.loop-whole-test.false c.loop-whole.invariant
