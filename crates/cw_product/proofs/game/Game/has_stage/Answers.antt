use Rattle.cw_product.proofs.Begun.{stages_seen}
use Rattle.cw_product.proofs.game.Game.has_stage.Goals as goal

pub returns : goal.returns
returns c =
    stages_seen _ c.args.self.now c.self.view_is c.fact_is_sound.ensures c.policy.result.now c.policy.ensures c.args.seam.0 c.args.stage
    c.stages_of.result c.stages_of.ensures
