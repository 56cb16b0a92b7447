use Rattle.std.proofs.Common.{arith, ◌∙◌, ◌≤◌, length}
use Rattle.cw_product.proofs.Placing.{found_rise, some_begun, few_begun, point_of}
use Rattle.cw_product.proofs.game.Game.point.Goals as goal

pub begun-requires : goal.begun-requires
begun-requires c = record {
  rise = found_rise _ c.args.self.now c.self.view_is c.deref.result.now
      (c.deref.ensures.value ∙ c.self.invariant.same_bases);
}

pub overflow_sub-result : goal.overflow_sub-result
overflow_sub-result c =
    some_begun _ c.args.self.now c.self.view_is c.deref.result.now
    (c.deref.ensures.value ∙ c.self.invariant.same_bases) c.args.pos.0 c.begun.result c.requires
    c.begun.ensures.bound c.begun.ensures.point

pub overflow_cast-result : goal.overflow_cast-result
overflow_cast-result c =
    let few : c.begun.result ≤ length c.args.self.now.graph.nodes.items =
    few_begun _ c.args.self.now c.self.view_is c.deref.result.now
    (c.deref.ensures.value ∙ c.self.invariant.same_bases) c.args.pos.0 c.begun.result c.requires
    c.begun.ensures.bound c.begun.ensures.point in
    omega (arith, few, c.fact_is_sound.ensures.narrow)

pub returns : goal.returns
returns c =
    point_of _ c.args.self.now c.self.view_is c.deref.result.now
    (c.deref.ensures.value ∙ c.self.invariant.same_bases) c.args.pos.0 c.begun.result c.requires
    c.begun.ensures.bound c.begun.ensures.point
