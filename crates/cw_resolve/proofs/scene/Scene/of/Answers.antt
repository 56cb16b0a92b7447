use Rattle.cw_resolve.proofs.Scening.{same_lists}
use Rattle.cw_resolve.proofs.scene.Scene.of.Goals as goal

pub returns : goal.returns
returns c =
    same_lists c.args.source.now _ _ _ _ _ _ _ _ c.in_ok-functions.ensures.names c.in_ok-descriptors.ensures.names c.in_ok-labels.ensures.names c.in_ok-splits.ensures.names
